use Rattle.bucket_table.proofs.Map.Counted.{map_kept}
use Rattle.bucket_table.proofs.hash_table.HashTable.prepare_at.Goals as goal

pub returns-clause-units : goal.returns-clause-units
returns-clause-units g c = rw (← c.self.view_is) c.prepare_at.ensures.units

pub invariant_of-self : goal.invariant_of-self
invariant_of-self g c =
    map_kept g.K.PartialEq.eq g.met.K.Eq.laws (g.H.KeyHash.hash_of c.self.inside.hasher) c.self.inside.arrays c.prepare_at.new.self
    c.self.invariant c.prepare_at.ensures.kept.keeps c.prepare_at.ensures.placed
