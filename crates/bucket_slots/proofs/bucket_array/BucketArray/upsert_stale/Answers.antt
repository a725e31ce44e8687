use Rattle.bucket_slots.proofs.Words.{ap, arith, bucket_with_value, refl, rules, set, slots_after_insertion, ◌%◌, ◌∙◌}
use Rattle.bucket_slots.specs.ArrayView.{bucket_at}
use Rattle.bucket_slots.proofs.Digests.{null_at}
use Rattle.bucket_slots.proofs.PairsAfter.{live_from_pair}
use Rattle.bucket_slots.proofs.SearchedPairs.{found_pair}
use Rattle.bucket_slots.proofs.bucket_array.BucketArray.upsert_stale.Goals as goal

pub entry_mut-held-requires : goal.entry_mut-held-requires
entry_mut-held-requires g c =
    let found = c.get_entry_ptr-at.ensures.found (c.is_valid.ensures.0 c.if-is_valid.true) in
    let (pair, is) = found_pair (λ own. g.K.PartialEq.eq own c.args.key) (c.args.hash % 256) c.bucket_mut-bucket.result.now _ found in
    let live = live_from_pair _ pair is.slot in
    (search rules, (omega arith, live))

pub returns-then-is_valid : goal.returns-then-is_valid
returns-then-is_valid g c =
    let lent = c.bucket_mut-bucket.ensures.bucket in
    let found = c.get_entry_ptr-at.ensures.found (c.is_valid.ensures.0 c.if-is_valid.true) in
    let at = c.get_entry_ptr-at.result in (
      bucket_with_value (bucket_at c.args.self.now c.args.index) at c.args.value,
      (
        at,
        c.entry_mut-held.result.0.now,
        rw lent at found,
        rw c.replace.ensures.value (rw lent at c.entry_mut-held.ensures.pair),
        refl,
      ),
      rw (lent, c.replace.ensures.after) refl,
    )

pub returns-in-Ok : goal.returns-in-Ok
returns-in-Ok g c =
    let lent = c.bucket_mut-bucket.ensures.bucket in
    let absent = c.get_entry_ptr-at.ensures.absent (null_at _ _ c.is_valid.ensures.1 c.if-is_valid.false) in (
      slots_after_insertion g.row.TYPE (g.G.Generation.keeps c.args.generation.now) (bucket_at c.args.self.now c.args.index)
          (c.args.key, c.args.value) (c.args.hash % 256),
      (rw lent at absent, refl),
      ap (set c.args.self.now c.args.index) (rw lent at c.in-Ok.ensures.slots),
    )

pub returns : goal.returns
returns g c =
    let lent = c.bucket_mut-bucket.ensures.bucket in
    let absent = c.get_entry_ptr-at.ensures.absent (null_at _ _ c.is_valid.ensures.1 c.if-is_valid.false) in (
      bucket_at c.args.self.now c.args.index,
      (c.in-Err.ensures.pair_returned, rw lent at absent, refl, rw lent at c.in-Err.ensures.refused.no_free_slot),
      ap (set c.args.self.now c.args.index) (c.in-Err.ensures.refused.unchanged ∙ lent),
    )
