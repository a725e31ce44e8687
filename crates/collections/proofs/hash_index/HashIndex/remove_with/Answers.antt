use Rattle.std.proofs.Common.{is_some}
use Rattle.bucket_slots.specs.Marking.{slots_marked}
use Rattle.collections.proofs.IndexSteps.{reads_out}
use Rattle.collections.proofs.RemovedMarks.{marks_removed}
use Rattle.collections.proofs.Slots.{fewer_marked, taken_loses}
use Rattle.collections.proofs.hash_index.HashIndex.remove_with.Goals as goal

pub returns-clause-map : goal.returns-clause-map
returns-clause-map g c = rw (← c.self.view_is, ← c.new.ensures.form) (reads_out g.K.PartialEq.eq g.met.K.Eq.laws 79 c.self.inside.table
    c.mark_by-outcome.new.self c.fact_sound.ensures.one_map.distinct c.fact_sound-2.ensures.one_map.distinct _
    (g.Q.KeyForm.stands_for c.new.result.form) (g.met.Q.KeyForm.alike c.new.result.form) c.mark_by-outcome.result
    c.mark_by-outcome.ensures.map)

pub returns-clause-marks : goal.returns-clause-marks
returns-clause-marks g c = rw (← c.self.view_is) c.mark_by-outcome.ensures.marks

pub returns-clause-marked : goal.returns-clause-marked
returns-clause-marked g c =
    let marks = c.mark_by-outcome.ensures.arrays in
    rw (← c.self.view_is, ← c.new.ensures.form) (marks_removed (g.Q.KeyForm.stands_for c.new.result.form) _ c.self.inside.table
    marks.between c.mark_by-outcome.new.self marks.prepared _ _ marks.done)

pub returns-clause-slots : goal.returns-clause-slots
returns-clause-slots g c =
    rw (← c.self.view_is) (taken_loses 79 c.hash_by-hash.result c.self.inside.table c.mark_by-outcome.new.self
    (g.Q.KeyForm.stands_for c.new.result.form) (λ bucket at. slots_marked bucket at 0) (is_some c.mark_by-outcome.result)
    c.fact_sound.ensures.long
    (fewer_marked 79 (g.Q.KeyForm.stands_for c.new.result.form)
    (λ own value answer. g.F.FnOnce.post c.args.reader (own, (value, tt)) answer)
    c.self.inside.table c.mark_by-outcome.new.self c.mark_by-outcome.result c.mark_by-outcome.ensures.map)
    c.mark_by-outcome.ensures.arrays)
