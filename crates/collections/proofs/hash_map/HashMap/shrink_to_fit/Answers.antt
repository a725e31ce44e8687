use Rattle.std.proofs.Common.{ap, subst, sym, ◌∙◌}
use Rattle.collections.specs.Changes.{Stays}
use Rattle.collections.specs.Maps.{map_of}
use Rattle.collections.proofs.Capacity.{least_gone, no_buckets, none_moving, shrinks_moved, shrinks_none, shrinks_ready}
use Rattle.collections.proofs.Capacity.{shrinks_refused, slots_gone, some_moving}
use Rattle.collections.proofs.hash_map.HashMap.shrink_to_fit.Goals as goal

pub returns-then-pairs-eq0 : goal.returns-then-pairs-eq0
returns-then-pairs-eq0 g c =
    let gone = slots_gone c.self.inside.table c.set_minimum.new.self c.clear.new.self c.set_minimum.ensures c.clear.ensures.hasher
    c.clear.ensures.arrays in
    rw (← c.self.view_is) (shrinks_none g.K.PartialEq.eq (map_of c.self.inside.table) c.fact_sound.ensures.one_map.distinct
    c.len-pairs.result c.len-pairs.ensures (map_of c.clear.new.self) (no_buckets c.self.inside.table) c.if-pairs-eq0.true gone)

pub returns-in_default : goal.returns-in_default
returns-in_default g c =
    let least = least_gone c.self.inside.table c.set_minimum.new.self c.set_minimum.ensures in
    rw (← c.self.view_is, least) (shrinks_refused g.K.PartialEq.eq (map_of c.self.inside.table) c.fact_sound.ensures.one_map.distinct
    c.len-pairs.result c.len-pairs.ensures c.if-pairs-eq0.false _ c.in_default.ensures)

pub returns-then-slots-num_slots : goal.returns-then-slots-num_slots
returns-then-slots-num_slots g c =
    let least = least_gone c.self.inside.table c.set_minimum.new.self c.set_minimum.ensures in
    rw (← c.self.view_is) (shrinks_moved g.K.PartialEq.eq (map_of c.self.inside.table) c.fact_sound.ensures.one_map.distinct
    c.len-pairs.result c.len-pairs.ensures c.if-pairs-eq0.false c.in-Some.slots c.in-Some.ensures c.rehash_to.result
    c.rehash_to.new.self (subst (λ map. Stays g.K.PartialEq.eq map c.rehash_to.new.self) least c.rehash_to.ensures.map)
    c.rehash_to.ensures.slots
    (λ same alone. c.if-slots-num_slots.true (same ∙ sym (c.num_slots.ensures ∙ ap (λ map. map.slots) least))))

pub returns-then-has_linked_array : goal.returns-then-has_linked_array
returns-then-has_linked_array g c =
    let least = least_gone c.self.inside.table c.set_minimum.new.self c.set_minimum.ensures in
    let moved = c.rehash_to-then-has_linked_array in
    rw (← c.self.view_is) (shrinks_moved g.K.PartialEq.eq (map_of c.self.inside.table) c.fact_sound.ensures.one_map.distinct
    c.len-pairs.result c.len-pairs.ensures c.if-pairs-eq0.false c.in-Some.slots c.in-Some.ensures moved.result
    moved.new.self (subst (λ map. Stays g.K.PartialEq.eq map moved.new.self) least moved.ensures.map) moved.ensures.slots
    (λ same alone. some_moving _ c.has_linked_array.result c.has_linked_array.ensures c.if-has_linked_array.true
    (ap (λ map. map.old_slots) least ∙ alone)))

pub returns : goal.returns
returns g c =
    let least = least_gone c.self.inside.table c.set_minimum.new.self c.set_minimum.ensures in
    rw (← c.self.view_is, least) (shrinks_ready g.K.PartialEq.eq (map_of c.self.inside.table) c.fact_sound.ensures.one_map.distinct
    c.len-pairs.result c.len-pairs.ensures c.if-pairs-eq0.false c.in-Some.slots c.in-Some.ensures
    (c.if-slots-num_slots.false ∙ c.num_slots.ensures ∙ ap (λ map. map.slots) least)
    (sym (ap (λ map. map.old_slots) least)
    ∙ none_moving _ c.has_linked_array.result c.has_linked_array.ensures c.if-has_linked_array.false))
