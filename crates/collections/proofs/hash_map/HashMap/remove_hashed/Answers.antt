use Rattle.std.proofs.Common.{is_some}
use Rattle.bucket_slots.specs.Removing.{slots_without}
use Rattle.collections.proofs.Slots.{fewer_taken, taken_loses}
use Rattle.collections.proofs.Steps.{removes}
use Rattle.collections.proofs.hash_map.HashMap.remove_hashed.Goals as goal

pub returns-clause-map : goal.returns-clause-map
returns-clause-map g c = rw (← c.self.view_is, ← c.new.ensures.form) (removes g.K.PartialEq.eq g.met.K.Eq.laws 83 c.self.inside.table
    c.take_by-taken.new.self c.fact_sound.ensures.one_map.distinct c.fact_sound-2.ensures.one_map.distinct
    (g.Q.KeyForm.stands_for c.new.result.form) (g.met.Q.KeyForm.alike c.new.result.form) c.take_by-taken.result c.take_by-taken.ensures.map)

pub returns-clause-slots : goal.returns-clause-slots
returns-clause-slots g c = rw (← c.self.view_is) (taken_loses 83 c.args.hash c.self.inside.table c.take_by-taken.new.self
    (g.Q.KeyForm.stands_for c.new.result.form) slots_without (is_some c.take_by-taken.result) c.fact_sound.ensures.long
    (fewer_taken 83 (g.Q.KeyForm.stands_for c.new.result.form) c.self.inside.table c.take_by-taken.new.self c.take_by-taken.result
    c.take_by-taken.ensures.map)
    c.take_by-taken.ensures.arrays)
