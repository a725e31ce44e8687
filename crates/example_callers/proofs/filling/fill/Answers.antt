use Rattle.std.proofs.Common.{Err, ap, arith, length, ◌+◌, ◌<◌}
use Rattle.collections.specs.Maps.{map_len}
use Rattle.example_callers.proofs.RoomYet.{handed_back, refused, room_after}
use Rattle.example_callers.proofs.filling.fill.Goals as goal

pub returns-in-Err-Memory-clause-refused : goal.returns-in-Err-Memory-clause-refused
returns-in-Err-Memory-clause-refused g c =
    let eq = g.K.PartialEq.eq in
    let old = c.loop-pair.map in
    let some : 0 < map_len c.args.map.now + length c.args.pairs.now = omega (arith, c.loop-pair-test.true) in
    let done = c.in-Err-Memory.ensures in
    let back = handed_back eq _ _ old c.in-Err-Memory.field-0-is done.map.0 in
    refused eq g.H.KeyHash.hash_of c.args.map.now.hasher c.try_reserve.new.self.slots (map_len c.args.map.now + length c.args.pairs.now) old
    c.insert.new.self c.loop-pair.invariant.1 some _ done.map.1 (done.memory (ap Err back))

pub loop-pair-preserved : goal.loop-pair-preserved
loop-pair-preserved g c =
    let some : 0 < map_len c.args.map.now + length c.args.pairs.now = omega (arith, c.loop-pair-test.true) in
    let inv = c.loop-pair.invariant in
    let done = c.in-Ok.ensures in (
      omega (arith, inv.0, done.map.len),
      room_after g.K.PartialEq.eq g.H.KeyHash.hash_of c.args.map.now.hasher c.try_reserve.new.self.slots
          (map_len c.args.map.now + length c.args.pairs.now) c.loop-pair.map c.insert.new.self inv.1 some _ _ done.map done.slots,
    )
