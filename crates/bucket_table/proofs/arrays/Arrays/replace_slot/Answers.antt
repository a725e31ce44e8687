use Rattle.bucket_table.proofs.Words.{refl}
use Rattle.bucket_table.proofs.arrays.Arrays.replace_slot.Goals as goal

pub returns-clause-pair : goal.returns-clause-pair
returns-clause-pair g c = rw c.bucket_of_mut.ensures.bucket at c.replace-earlier.ensures.pair

pub returns-clause-arrays : goal.returns-clause-arrays
returns-clause-arrays g c = rw (c.refresh_on.ensures, c.replace-earlier.ensures.slots, c.bucket_of_mut.ensures.bucket) refl
