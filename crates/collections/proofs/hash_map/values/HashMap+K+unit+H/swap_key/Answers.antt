use Rattle.std.proofs.Common.{is_ok, ◌%◌}
use Rattle.bucket_slots.specs.Replacing.{slots_replaced}
use Rattle.collections.proofs.SetSteps.{swaps_key}
use Rattle.collections.proofs.Slots.{changed_keeps}
use Rattle.collections.proofs.hash_map.values.HashMap+K+unit+H.swap_key.Goals as goal
use Rattle.collections.proofs.hash_map.values.HashMap+K+unit+H.swap_key.Goals.{in-Ok, in-Err}

pub returns-clause-keys : goal.returns-clause-keys
returns-clause-keys g c =
    let all = swaps_key g.K.PartialEq.eq g.met.K.Eq.laws c.args.key 83 c.self.inside.table c.replace-outcome.new.self
    c.fact_sound.ensures.one_map.distinct c.fact_sound-2.ensures.one_map.distinct c.replace-outcome.result c.replace-outcome.ensures.map in
    rw (← c.self.view_is) (elim c.match-outcome.branch [
      | in-Ok w ↦ rw w.result-is (rw w.in-Ok.is at all)
      | in-Err w ↦ rw w.result-is (rw w.in-Err.is at all)
    ])

pub returns-clause-slots : goal.returns-clause-slots
returns-clause-slots g c =
    let hash = g.H.KeyHash.hash_of c.self.inside.table.hasher c.args.key in
    rw (← c.self.view_is) (changed_keeps 83 hash c.self.inside.table c.replace-outcome.new.self (λ own. g.K.PartialEq.eq own c.args.key)
    (λ bucket at. slots_replaced bucket at (c.args.key, tt) (hash % 256)) (is_ok c.replace-outcome.result) c.replace-outcome.ensures.arrays)
