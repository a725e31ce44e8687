use Rattle.collections.proofs.RemovedMarks.{marks_released}
use Rattle.collections.proofs.Steps.{released}
use Rattle.collections.proofs.hash_index.HashIndex.shrink_to_fit.Goals as goal

pub returns-clause-map : goal.returns-clause-map
returns-clause-map g c = rw (← c.self.view_is) (released g.K.PartialEq.eq g.met.K.Eq.laws 79 c.self.inside.table c.release_capacity.new.self
    c.fact_sound.ensures.one_map.distinct c.fact_sound-2.ensures.one_map.distinct c.minimum_capacity-minimum.result
    c.release_capacity.result
    c.minimum_capacity-minimum.ensures c.release_capacity.ensures.map)

pub returns-clause-marks : goal.returns-clause-marks
returns-clause-marks g c = rw (← c.self.view_is) (marks_released _ c.release_capacity.result c.self.inside.table.arrays
    c.release_capacity.new.self.arrays c.release_capacity.ensures.arrays)
