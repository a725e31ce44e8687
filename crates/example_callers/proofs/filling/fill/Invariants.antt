use Rattle.std.proofs.Common.{length, ◌+◌, ◌≡◌}
use Rattle.collections.specs.Maps.{map_len}
use Rattle.example_callers.proofs.RoomYet.{HasRoomYet}
use Rattle.example_callers.proofs.filling.fill.Given as goal

-- the pairs so far are in, and there is room for the others
abbrev pub invariant-loop-pair : goal.invariant-loop-pair
invariant-loop-pair g l = (map_len l.map ≡ map_len l.fn.map + l.pair-index)
    × HasRoomYet g.K.PartialEq.eq g.H.KeyHash.hash_of l.fn.map.hasher l.initial.map.slots (map_len l.fn.map + length l.pairs) l.map
