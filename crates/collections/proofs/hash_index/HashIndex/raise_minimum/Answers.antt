use Rattle.collections.proofs.RemovedMarks.{marks_reserved}
use Rattle.collections.proofs.Steps.{stays_by}
use Rattle.collections.proofs.hash_index.HashIndex.raise_minimum.Goals as goal

pub returns-clause-map : goal.returns-clause-map
returns-clause-map g c = rw (← c.self.view_is) (record {
  granted = c.reserve_capacity-raised.ensures.map.granted;
  stays = stays_by g.K.PartialEq.eq g.met.K.Eq.laws 79 c.self.inside.table c.reserve_capacity-raised.new.self
      c.fact_sound.ensures.one_map.distinct c.fact_sound-2.ensures.one_map.distinct _ c.reserve_capacity-raised.ensures.map.kept;
})

pub returns-clause-marks : goal.returns-clause-marks
returns-clause-marks g c = rw (← c.self.view_is) (marks_reserved c.args.additional c.reserve_capacity-raised.result
    c.self.inside.table.arrays c.reserve_capacity-raised.new.self.arrays c.reserve_capacity-raised.ensures.arrays)
