use Rattle.bucket_table.proofs.Map.Counted.{nothing_counted}
use Rattle.bucket_table.proofs.hash_table.HashTable.clear.Goals as goal

pub invariant_of-self : goal.invariant_of-self
invariant_of-self g c =
    rw (c.clear.ensures, c.new-self-inside.ensures)
    (nothing_counted g.K.PartialEq.eq (g.H.KeyHash.hash_of c.self.inside.hasher) c.self.inside.arrays.minimum c.self.inside.arrays.maximum)
