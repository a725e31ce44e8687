use Rattle.std.proofs.Common.{is_some}
use Rattle.collections.proofs.Slots.{written_keeps}
use Rattle.collections.proofs.Steps.{rewrites}
use Rattle.collections.proofs.hash_map.HashMap.update.Goals as goal

pub returns-clause-map : goal.returns-clause-map
returns-clause-map g c = rw (← c.self.view_is, ← c.new.ensures.form) (rewrites g.K.PartialEq.eq g.met.K.Eq.laws 83 c.self.inside.table
    c.update_by-outcome.new.self c.fact_sound.ensures.one_map.distinct c.fact_sound-2.ensures.one_map.distinct _
    (g.Q.KeyForm.stands_for c.new.result.form) (g.met.Q.KeyForm.alike c.new.result.form)
    c.update_by-outcome.result c.update_by-outcome.ensures.map)

pub returns-clause-slots : goal.returns-clause-slots
returns-clause-slots g c = rw (← c.self.view_is) (written_keeps 83 c.hash_by-hash.result c.self.inside.table c.update_by-outcome.new.self
    (g.Q.KeyForm.stands_for c.new.result.form) (is_some c.update_by-outcome.result) c.update_by-outcome.ensures.arrays)
