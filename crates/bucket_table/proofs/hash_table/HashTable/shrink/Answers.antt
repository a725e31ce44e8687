use Rattle.bucket_table.proofs.Map.Counted.{map_kept}
use Rattle.bucket_table.proofs.hash_table.HashTable.shrink.Goals as goal

pub invariant_of-self : goal.invariant_of-self
invariant_of-self g c =
    map_kept g.K.PartialEq.eq g.met.K.Eq.laws (g.H.KeyHash.hash_of c.self.inside.hasher) c.self.inside.arrays c.try_shrink.new.self
    c.self.invariant c.try_shrink.ensures.kept (c.try_shrink.ensures.placed (g.H.KeyHash.hash_of c.self.inside.hasher)
    c.self.invariant.one_map.placed)

pub returns-clause-resized : goal.returns-clause-resized
returns-clause-resized g c = rw (← c.self.view_is) c.try_shrink.ensures.asked
