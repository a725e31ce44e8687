use Rattle.collections.proofs.Capacity.{none_fewer, settled_slots}
use Rattle.collections.proofs.Steps.{stays}
use Rattle.collections.proofs.hash_map.HashMap.rehash_to.Goals.{in-Err, in-Ok}
use Rattle.collections.proofs.hash_map.HashMap.rehash_to.Goals as goal

pub returns-clause-map : goal.returns-clause-map
returns-clause-map g c = rw (← c.self.view_is) (stays g.K.PartialEq.eq g.met.K.Eq.laws 83 c.self.inside.table
    c.rehash_to-outcome.new.self c.fact_sound.ensures.one_map.distinct c.fact_sound-2.ensures.one_map.distinct
    c.rehash_to-outcome.ensures.map)

pub returns-clause-slots : goal.returns-clause-slots
returns-clause-slots g c = elim c.match-outcome.branch [
  | in-Ok w ↦
      rw w.result-is (settled_slots c.args.slots c.rehash_to-outcome.new.self.arrays c.requires w.in-Ok.ensures.rehashed.settled)
  | in-Err w ↦ rw w.result-is tt
]

pub returns-clause-no_fewer : goal.returns-clause-no_fewer
returns-clause-no_fewer g c = rw (← c.self.view_is) (none_fewer c.args.slots _ _ c.requires
    c.rehash_to-outcome.ensures.rehashed.current_len)
