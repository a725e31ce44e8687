use Rattle.collections.proofs.Orders.{leaves_place}
use Rattle.collections.proofs.Steps.{removes}
use Rattle.collections.proofs.hash_cache.HashCache.remove.Goals as goal

pub returns-clause-map : goal.returns-clause-map
returns-clause-map g c =
    rw (← c.self.view_is, ← c.new.ensures.form) (removes g.K.PartialEq.eq g.met.K.Eq.laws 67 c.self.inside.table c.take_by-taken.new.self
    c.fact_sound.ensures.one_map.distinct c.fact_sound-2.ensures.one_map.distinct
    (g.Q.KeyForm.stands_for c.new.result.form) (g.met.Q.KeyForm.alike c.new.result.form) c.take_by-taken.result c.take_by-taken.ensures.map)

pub returns-clause-place : goal.returns-clause-place
returns-clause-place g c =
    rw (← c.self.view_is, ← c.new.ensures.form) (leaves_place _ c.self.inside.table c.take_by-taken.new.self
    (g.Q.KeyForm.stands_for c.new.result.form) _ _ c.take_by-taken.ensures.arrays)
