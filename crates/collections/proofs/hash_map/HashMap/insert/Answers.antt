use Rattle.std.proofs.Common.{true}
use Rattle.collections.proofs.Crowding.{insertion_lacks}
use Rattle.collections.proofs.Slots.{insertion_grows}
use Rattle.collections.proofs.Steps.{inserts}
use Rattle.collections.proofs.hash_map.HashMap.insert.Goals as goal

pub returns-clause-map : goal.returns-clause-map
returns-clause-map g c = rw (← c.self.view_is) (inserts g.K.PartialEq.eq g.met.K.Eq.laws 83 c.self.inside.table
    c.insert_pair-outcome.new.self c.fact_sound.ensures.one_map.distinct c.fact_sound-2.ensures.one_map.distinct c.args.key c.args.value
    c.insert_pair-outcome.result c.insert_pair-outcome.ensures.map)

pub returns-clause-memory : goal.returns-clause-memory
returns-clause-memory g c = λ is. rw (← c.self.view_is) (insertion_lacks g.H.KeyHash.hash_of c.args.key c.self.inside.table
    c.insert_pair-outcome.new.self
    c.fact_sound-2.ensures.one_map.placed (c.fact_refused.ensures.current c.args.key c.args.value is)
    (c.fact_refused.ensures.old c.args.key c.args.value is) (λ mark. true) c.args.value g.K.PartialEq.eq c.insert_pair-outcome.result
    c.args.key c.args.value c.insert_pair-outcome.ensures.map c.insert_pair-outcome.ensures.arrays is)

pub returns-clause-slots : goal.returns-clause-slots
returns-clause-slots g c =
    let puts = c.insert_pair-outcome.ensures.arrays in
    rw (← c.self.view_is) (insertion_grows g.H.KeyHash.hash_of c.args.key c.self.inside.table c.insert_pair-outcome.new.self
    c.fact_sound-2.ensures.one_map.placed c.fact_sound-2.ensures.beside g.K.PartialEq.eq 83 (λ mark. true) c.args.value
    c.insert_pair-outcome.result puts.answer puts.between puts.found puts.done c.insert_pair-outcome.ensures.map)
