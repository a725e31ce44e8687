use Rattle.bucket_slots.proofs.Words.{ap, length, pairs_in, rules, set, set-get_or, ◌%◌, ◌∙◌}
use Rattle.bucket_slots.proofs.PairsAfter.{live_from_pair}
use Rattle.bucket_slots.proofs.Digests.{null_at}
use Rattle.bucket_slots.proofs.SearchedPairs.{found_pair}
use Rattle.bucket_slots.proofs.bucket_array.BucketArray.take_stale.Goals as goal

pub returns-then-not-is_valid-clause-taken : goal.returns-then-not-is_valid-clause-taken
returns-then-not-is_valid-clause-taken g c =
    let lent = c.bucket_mut-bucket.ensures.bucket in
    let absent = c.get_entry_ptr_by-at.ensures.absent (null_at _ _ c.is_valid.ensures.1 c.if-not-is_valid.true) in
    (rw lent (set-get_or c.args.self.now c.args.index _), rw lent at absent)

pub remove-pair-requires : goal.remove-pair-requires
remove-pair-requires g c =
    let found = c.get_entry_ptr_by-at.ensures.found (c.is_valid.ensures.0 c.if-not-is_valid.false) in
    let (pair, is) = found_pair (g.P.KeyProbe.matches c.args.probe.now) (c.args.hash % 256) c.bucket_mut-bucket.result.now _ found in
    let live = live_from_pair _ pair is.slot in
    search rules

pub returns-clause-taken : goal.returns-clause-taken
returns-clause-taken g c =
    let lent = c.bucket_mut-bucket.ensures.bucket in
    let found = c.get_entry_ptr_by-at.ensures.found (c.is_valid.ensures.0 c.if-not-is_valid.false) in
    let removed = rw lent at c.remove-pair.ensures in record {
      at = c.get_entry_ptr_by-at.result;
      found = rw lent at found;
      taken = removed.pair;
      changed = c.refresh.ensures ∙ ap (set c.args.self.now c.args.index) removed.slots;
      left_is = c.len-left.ensures ∙ ap (λ b. length (pairs_in b)) removed.slots;
    }
