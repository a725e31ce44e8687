use Rattle.bucket_table.proofs.Walking.EachByUse.{each_by_use}
use Rattle.bucket_table.proofs.hash_table.cache.HashTable+K+V+H+DoublyLinkedList+CACHE.pairs_by_use.Goals as goal

pub returns-clause-each : goal.returns-clause-each
returns-clause-each g c = rw (← c.self.view_is, c.new.ensures) (each_by_use c.self.inside.arrays)
