use Rattle.bucket_slots.proofs.PairsAfter.{live_from_pair}
use Rattle.bucket_slots.proofs.SearchedPairs.{found_pair}
use Rattle.test_layers.proofs.by_key.find.Goals as goal

pub returns-then-is_valid : goal.returns-then-is_valid
returns-then-is_valid g c =
    let found = found_pair _ _ c.args.bucket.now _ (c.get_entry_ptr-at.ensures.found (c.is_valid.ensures.0 c.if-is_valid.true)) in
    live_from_pair _ _ found.1.slot
