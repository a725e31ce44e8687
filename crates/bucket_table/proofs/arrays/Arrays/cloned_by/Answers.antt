use Rattle.bucket_table.proofs.Words.{refl}
use Rattle.bucket_table.proofs.arrays.Arrays.cloned_by.Goals as goal

pub returns-clause-made : goal.returns-clause-made
returns-clause-made g c = rw (← c.in-Some.ensures.there.1) (c.if-not-clone_buckets.ensures refl)
