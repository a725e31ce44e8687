use Rattle.collections.proofs.Steps.{rewrites}
use Rattle.collections.proofs.Writing.{written}
use Rattle.collections.proofs.hash_cache.HashCache.update.Goals as goal

pub returns-clause-map : goal.returns-clause-map
returns-clause-map g c = rw (← c.self.view_is, ← c.new.ensures.form) (rewrites g.K.PartialEq.eq g.met.K.Eq.laws 67 c.self.inside.table
    c.update_by-outcome.new.self c.fact_sound.ensures.one_map.distinct c.fact_sound-2.ensures.one_map.distinct _
    (g.Q.KeyForm.stands_for c.new.result.form) (g.met.Q.KeyForm.alike c.new.result.form) c.update_by-outcome.result
    c.update_by-outcome.ensures.map)

pub returns-clause-place : goal.returns-clause-place
returns-clause-place g c = rw (← c.self.view_is, ← c.new.ensures.form) (written g.K.PartialEq.eq g.met.K.Eq.laws c.self.inside.table
    c.update_by-outcome.new.self c.fact_sound.ensures.one_map.distinct (g.Q.KeyForm.stands_for c.new.result.form)
    (g.met.Q.KeyForm.alike c.new.result.form) _ _ c.update_by-outcome.ensures.arrays)
