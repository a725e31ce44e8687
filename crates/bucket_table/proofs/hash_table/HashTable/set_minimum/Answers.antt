use Rattle.bucket_table.proofs.Resize.Settling.{map_with}
use Rattle.bucket_table.proofs.hash_table.HashTable.set_minimum.Goals as goal

pub invariant_of-self : goal.invariant_of-self
invariant_of-self g c = rw c.set_minimum.ensures
    (map_with g.K.PartialEq.eq (g.H.KeyHash.hash_of c.self.inside.hasher) c.self.inside.arrays c.args.minimum c.self.invariant)
