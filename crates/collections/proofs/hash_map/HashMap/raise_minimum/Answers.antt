use Rattle.collections.proofs.Steps.{stays_by}
use Rattle.collections.proofs.hash_map.HashMap.raise_minimum.Goals as goal

pub returns : goal.returns
returns g c = rw (← c.self.view_is) (record {
  granted = c.reserve_capacity-raised.ensures.map.granted;
  stays = stays_by g.K.PartialEq.eq g.met.K.Eq.laws 83 c.self.inside.table c.reserve_capacity-raised.new.self
      c.fact_sound.ensures.one_map.distinct
      c.fact_sound-2.ensures.one_map.distinct _ c.reserve_capacity-raised.ensures.map.kept;
})
