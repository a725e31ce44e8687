use Rattle.bucket_table.proofs.hash_table.HashTable.update.Goals as goal

pub returns-clause-map : goal.returns-clause-map
returns-clause-map g c = rw (← c.new.ensures.key) c.update_by.ensures.map

pub returns-clause-arrays : goal.returns-clause-arrays
returns-clause-arrays g c = rw (← c.hash-hash.ensures, ← c.new.ensures.key) c.update_by.ensures.arrays
