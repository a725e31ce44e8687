use Rattle.bucket_table.proofs.hash_table.HashTable.put.Goals as goal

pub returns-clause-arrays : goal.returns-clause-arrays
returns-clause-arrays g c = rw (← c.hash-hash.ensures) c.put_hashed.ensures.arrays
