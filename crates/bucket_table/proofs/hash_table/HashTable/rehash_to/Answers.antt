use Rattle.bucket_table.proofs.Resize.Remaking.{counted_remade, map_remade}
use Rattle.bucket_table.proofs.hash_table.HashTable.rehash_to.Goals as goal

pub invariant_of-self : goal.invariant_of-self
invariant_of-self g c =
    counted_remade c.args.capacity c.self.inside.arrays c.rehash_to.result c.rehash_to.new.self c.rehash_to.ensures.rehashed
    g.K.PartialEq.eq g.met.K.Eq.laws (g.H.KeyHash.hash_of c.self.inside.hasher) c.self.invariant c.rehash_to.ensures.placed

pub returns-clause-map : goal.returns-clause-map
returns-clause-map g c = rw (← c.self.view_is) (map_remade c.args.capacity c.self.inside.arrays c.rehash_to.result c.rehash_to.new.self
    c.rehash_to.ensures.rehashed g.row.TYPE _)
