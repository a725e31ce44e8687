use Rattle.std.proofs.Common.{rules}
use Rattle.bucket_slots.proofs.PairsAfter.{live_from_pair}
use Rattle.bucket_slots.proofs.SearchedPairs.{found_pair}
use Rattle.trial_refused_memory.proofs.buckets.transfer.Goals as goal

pub extract_from-requires : goal.extract_from-requires
extract_from-requires c =
    let found = found_pair _ _ c.args.from.now _ (c.get_entry_ptr-at.ensures.found (c.is_valid.ensures.0 c.if-not-is_valid.false)) in
    (search rules, (search rules, (search rules, live_from_pair _ _ found.1.slot)))
