use Rattle.bucket_slots.proofs.Words.{IsMaskOf, ap, bit_and, has_byte, subst, sym, ℕ, ◌%◌, ◌∙◌}
use Rattle.bucket_slots.specs.ArrayView.{bucket_at}
use Rattle.bucket_slots.proofs.Digests.{candidates_are, said_is}
use Rattle.bucket_slots.proofs.bucket_array.digests.Digests.known.Goals as goal

pub returns-clause-mask : goal.returns-clause-mask
returns-clause-mask g c =
    let known = said_is _ c.live-live.result c.is_stale.ensures.1 c.if-is_stale.false in
    let is = (c.requires c.args.index (λ stale. known (c.live-live.ensures ∙ stale))).1 in
    let (mask, match, left_is) = c.candidates.ensures in
    let same = left_is ∙ ap (λ n. bit_and mask n) c.live-live.ensures in
    subst (λ (n : ℕ). IsMaskOf (has_byte (c.args.hash % 256)) (bucket_at c.args.buckets.now c.args.index).own n) (sym same)
    (candidates_are _ (bucket_at c.args.buckets.now c.args.index) (c.args.hash % 256) mask is match)
