use Rattle.bucket_table.proofs.hash_table.locked_bucket.LockedBucket.entry.Goals as goal

pub returns : goal.returns
returns g c = rw (← c.table.view_is) c.entry_of.ensures
