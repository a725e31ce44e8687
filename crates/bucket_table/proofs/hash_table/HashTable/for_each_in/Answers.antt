use Rattle.bucket_table.proofs.hash_table.HashTable.for_each_in.Goals as goal

pub returns-clause-calls : goal.returns-clause-calls
returns-clause-calls g c = rw (← c.self.view_is) c.for_each_in.ensures.calls
