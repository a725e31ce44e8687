use Rattle.bucket_table.proofs.hash_table.HashTable.take.Goals as goal

pub returns-clause-arrays : goal.returns-clause-arrays
returns-clause-arrays g c = rw (← c.hash-hash.ensures, ← c.new.ensures.key) c.take_by.ensures.arrays
