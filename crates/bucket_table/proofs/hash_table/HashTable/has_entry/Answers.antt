use Rattle.bucket_table.proofs.Words.{arith, common_steps}
use Rattle.bucket_table.proofs.hash_table.HashTable.has_entry.Goals as goal

pub returns-clause-has : goal.returns-clause-has
returns-clause-has g c = grind (arith, common_steps)
