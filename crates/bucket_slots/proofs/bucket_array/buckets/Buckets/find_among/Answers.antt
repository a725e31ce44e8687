use Rattle.bucket_slots.proofs.Words.{IsMaskOf, has_byte, rules, subst, sym, ℕ, ◌%◌}
use Rattle.bucket_slots.specs.ArrayView.{bucket_at}
use Rattle.bucket_slots.proofs.Digests.{none_by_mask, some_in_mask}
use Rattle.bucket_slots.proofs.bucket_array.buckets.Buckets.find_among.Goals as goal

pub returns-then-candidates-eq0-clause-place : goal.returns-then-candidates-eq0-clause-place
returns-then-candidates-eq0-clause-place g c =
    let b = bucket_at c.args.self.now c.args.index in
    let mask = subst (λ (n : ℕ). IsMaskOf (has_byte (c.args.hash % 256)) b.own n) c.if-candidates-eq0.true c.requires.mask in
    sym (none_by_mask _ (c.args.hash % 256) b mask c.requires.chainless)

pub made-requires : goal.made-requires
made-requires g c =
    let alive = some_in_mask (c.args.hash % 256) _ _ c.requires.mask c.ranges.candidates.fits c.if-candidates-eq0.false in
    (search rules, (search rules, (c.requires.long, (c.requires.within, alive))))

pub find_among-requires : goal.find_among-requires
find_among-requires g c = rw c.made.ensures (c.fact_room.ensures, (search rules, (c.requires.mask, c.requires.chainless)))
