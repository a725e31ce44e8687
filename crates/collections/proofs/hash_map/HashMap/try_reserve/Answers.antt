use Rattle.collections.specs.Maps.{map_of}
use Rattle.collections.proofs.Capacity.{is_ready, makes, none_moving, not_full, overflows, slots_of_array, some_moving}
use Rattle.collections.proofs.hash_map.HashMap.try_reserve.Goals as goal

pub returns-in_default : goal.returns-in_default
returns-in_default g c = rw (← c.self.view_is) (overflows g.K.PartialEq.eq c.args.additional (map_of c.self.inside.table)
    c.fact_sound.ensures.one_map.distinct (slots_of_array _ c.fact_sound.ensures.long) c.len.result c.len.ensures _ c.in_default.ensures)

pub returns-then-is_too_full : goal.returns-then-is_too_full
returns-then-is_too_full g c =
    let made = c.make_room.ensures in
    rw (← c.self.view_is) (makes g.K.PartialEq.eq c.args.additional (map_of c.self.inside.table)
    c.fact_sound.ensures.one_map.distinct (slots_of_array _ c.fact_sound.ensures.long) c.len.result c.len.ensures c.in-Some.pairs
    c.in-Some.ensures.1 c.make_room.result c.make_room.new.self (rw (← c.self.view_is) at made.map)
    (rw (← c.self.view_is) at made.slots) (rw (← c.self.view_is) at made.no_fewer) (rw (← c.self.view_is) at made.too_many)
    (λ enough alone. enough (rw c.num_slots.ensures at (c.is_too_full.ensures.0 c.if-is_too_full.true))))

pub returns-then-has_linked_array : goal.returns-then-has_linked_array
returns-then-has_linked_array g c =
    let made = c.make_room-then-has_linked_array.ensures in
    rw (← c.self.view_is) (makes g.K.PartialEq.eq c.args.additional (map_of c.self.inside.table)
    c.fact_sound.ensures.one_map.distinct (slots_of_array _ c.fact_sound.ensures.long) c.len.result c.len.ensures c.in-Some.pairs
    c.in-Some.ensures.1 c.make_room-then-has_linked_array.result c.make_room-then-has_linked_array.new.self
    (rw (← c.self.view_is) at made.map) (rw (← c.self.view_is) at made.slots) (rw (← c.self.view_is) at made.no_fewer)
    (rw (← c.self.view_is) at made.too_many)
    (λ enough alone. some_moving _ c.has_linked_array.result c.has_linked_array.ensures c.if-has_linked_array.true alone))

pub returns : goal.returns
returns g c = rw (← c.self.view_is) (is_ready g.K.PartialEq.eq c.args.additional (map_of c.self.inside.table)
    c.fact_sound.ensures.one_map.distinct (slots_of_array _ c.fact_sound.ensures.long) c.len.result c.len.ensures c.in-Some.pairs
    c.in-Some.ensures.1 (rw c.num_slots.ensures at (not_full c.num_slots.result c.in-Some.pairs c.is_too_full.result
    c.is_too_full.ensures c.if-is_too_full.false))
    (none_moving _ c.has_linked_array.result c.has_linked_array.ensures c.if-has_linked_array.false))
