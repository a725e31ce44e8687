use Rattle.std.proofs.Common.{◌%◌}
use Rattle.collections.proofs.InsertedMarks.{none_kept}
use Rattle.collections.proofs.Marks.{no_new-inserted}
use Rattle.collections.proofs.Slots.{insertion_grows}
use Rattle.collections.proofs.Steps.{inserts}
use Rattle.collections.proofs.IndexRoom.{index_lacks}
use Rattle.collections.proofs.hash_index.HashIndex.insert.Goals as goal

pub returns-clause-map : goal.returns-clause-map
returns-clause-map g c = rw (← c.self.view_is) (inserts g.K.PartialEq.eq g.met.K.Eq.laws 79 c.self.inside.table
    c.insert_pair-outcome.new.self c.fact_sound.ensures.one_map.distinct c.fact_sound-2.ensures.one_map.distinct
    c.args.key c.args.value c.insert_pair-outcome.result
    c.insert_pair-outcome.ensures.map)

pub returns-clause-marks : goal.returns-clause-marks
returns-clause-marks g c =
    let hash = g.H.KeyHash.hash_of c.self.inside.table.hasher c.args.key in
    rw (← c.self.view_is) (no_new-inserted 79 (c.args.key, c.args.value) (hash % 256) hash
    c.self.inside.table c.insert_pair-outcome.result c.insert_pair-outcome.new.self c.insert_pair-outcome.ensures.arrays)

pub returns-clause-memory : goal.returns-clause-memory
returns-clause-memory g c = λ is. rw (← c.self.view_is) (index_lacks g.H.KeyHash.hash_of c.args.key c.self.inside.table
    c.insert_pair-outcome.new.self
    c.fact_sound-2.ensures.one_map.placed (c.fact_refused.ensures.current c.args.key c.args.value is)
    (c.fact_refused.ensures.old c.args.key c.args.value is) c.args.value
    g.K.PartialEq.eq c.insert_pair-outcome.result c.args.key c.args.value c.insert_pair-outcome.ensures.map
    c.insert_pair-outcome.ensures.arrays is)

pub returns-clause-slots : goal.returns-clause-slots
returns-clause-slots g c =
    let puts = c.insert_pair-outcome.ensures.arrays in
    rw (← c.self.view_is) (insertion_grows g.H.KeyHash.hash_of c.args.key c.self.inside.table c.insert_pair-outcome.new.self
    c.fact_sound-2.ensures.one_map.placed c.fact_sound-2.ensures.beside g.K.PartialEq.eq 79 none_kept c.args.value
    c.insert_pair-outcome.result puts.answer puts.between puts.found puts.done c.insert_pair-outcome.ensures.map)
