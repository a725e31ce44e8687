use Rattle.bucket_slots.proofs.Words.{ap, empty_bucket, inl, inr, length, refl, replicate, sym, ◌^◌, ◌∙◌}
use Rattle.bucket_slots.proofs.ArrayParts.{few_parts, few_spread, few_view, len_of, length-flattened, long_parts, long_view, new_parts, new_view}
use Rattle.std.proofs.lemmas.List.{length-replicate}
use Rattle.bucket_slots.proofs.bucket_array.buckets.Buckets.clear.Goals as goal

pub invariant_of-self : goal.invariant_of-self
invariant_of-self g c =
    let few = few_parts c.self.invariant.0 c.if-self-le-SHORT_LEN.true in
    let same = ap length c.empty_all.ensures ∙ length-replicate (length c.self.inside.beside.items) empty_bucket in
    (inl (few_spread _ _ _ _ _ few same), c.self.invariant.1)

pub returns-then-self-le-SHORT_LEN : goal.returns-then-self-le-SHORT_LEN
returns-then-self-le-SHORT_LEN g c =
    let few = few_parts c.self.invariant.0 c.if-self-le-SHORT_LEN.true in
    let same = ap length c.empty_all.ensures ∙ length-replicate (length c.self.inside.beside.items) empty_bucket in
    few_view (few_spread _ _ _ _ _ few same) ∙ c.empty_all.ensures
    ∙ ap (λ n. replicate n empty_bucket) (ap length (sym (few_view few) ∙ c.self.view_is))

pub invariant_of-self-else-self-le-SHORT_LEN : goal.invariant_of-self-else-self-le-SHORT_LEN
invariant_of-self-else-self-le-SHORT_LEN g c =
    let many = c.if-self-le-SHORT_LEN.false in
    let kept = long_parts c.self.invariant.0 many in
    let m = 2 ^ c.self.inside.part_bits in
    let whole = kept.len_is ∙ length-flattened _ m kept.long in
    (inr (new_parts _ _ m _ _ refl whole (c.clear_all.ensures m kept.long) _ kept.few_bits kept.spare_is, many), c.self.invariant.1)

pub returns-else-self-le-SHORT_LEN : goal.returns-else-self-le-SHORT_LEN
returns-else-self-le-SHORT_LEN g c =
    let many = c.if-self-le-SHORT_LEN.false in
    let kept = long_parts c.self.invariant.0 many in
    let m = 2 ^ c.self.inside.part_bits in
    let whole = kept.len_is ∙ length-flattened _ m kept.long in
    let is = c.clear_all.ensures m kept.long in
    long_view (new_parts _ _ m _ _ refl whole is _ kept.few_bits kept.spare_is) many ∙ new_view _ _ m _ _ refl whole is
    ∙ ap (λ n. replicate n empty_bucket) (len_of c.self.invariant.0 ∙ ap length c.self.view_is)
