use Rattle.bucket_slots.proofs.Words.{ap, inr, ℕ, ◌-◌, ◌∙◌}
use Rattle.bucket_slots.proofs.ArrayParts.{long_view, new_parts, new_view}
use Rattle.bucket_slots.proofs.PowersOfTwo.{shifted_one}
use Rattle.bucket_slots.proofs.bucket_array.buckets.Buckets.alloc.Goals as goal

pub invariant_of-result-2 : goal.invariant_of-result-2
invariant_of-result-2 g c =
    let cut = c.parts_for-count.ensures in (
      inr (
        new_parts _ _ _ _ _ (shifted_one _ cut.bits) cut.whole c.in_ok-parts.ensures _ cut.bits c.in_ok-beside-2.ensures,
        c.if-len-le-SHORT_LEN.false,
      ),
      ap (λ (n : ℕ). n - 1) (shifted_one _ cut.bits),
    )

pub returns : goal.returns
returns g c =
    let cut = c.parts_for-count.ensures in
    let kept = new_parts _ _ _ _ _ (shifted_one _ cut.bits) cut.whole c.in_ok-parts.ensures _ cut.bits c.in_ok-beside-2.ensures in
    long_view kept c.if-len-le-SHORT_LEN.false
    ∙ new_view _ _ _ _ _ (shifted_one _ cut.bits) cut.whole c.in_ok-parts.ensures
