use Rattle.bucket_table.proofs.Words.{ap}
use Rattle.std.proofs.Common.{slice_set}
use Rattle.bucket_slots.proofs.RoomAfter.{refused_full}
use Rattle.bucket_table.proofs.Map.LockedSteps.{pair_there}
use Rattle.bucket_table.proofs.Moves.MovingPairs.{home_has_room}
use Rattle.bucket_table.proofs.arrays.relocate.move_pair.Goals as goal

pub unreachable-requires : goal.unreachable-requires
unreachable-requires g c =
    let there = pair_there c.args.source.now c.args.at.now c.requires.live_slot in
    let none = rw c.in_default.is at (refused_full c.extract_from.result _ _ _ c.extract_from.ensures.refused) in
    home_has_room (g.H.KeyHash.hash_of c.args.hasher.now) c.args.at.now there.0 c.requires.ready there.1
    (c.destination_of-home.ensures.way there.0 there.1) (rw c.bucket_mut-target.ensures.bucket at none)

pub returns-clause-moved : goal.returns-clause-moved
returns-clause-moved g c =
    let target = c.bucket_mut-target.ensures.bucket in
    let put = rw target at c.in-Ok.ensures.slots in
    record {
      pair = put.0;
      here = put.1;
      home = c.destination_of-home.result.0;
      number = c.destination_of-home.result.1;
      way = c.destination_of-home.ensures.way put.0 put.1;
      bucket_laws = c.fact_sound.ensures;
      home_laws = rw target at c.fact_sound-2.ensures;
      vacated = c.in-Ok.ensures.vacated;
      placed = ap (λ b. slice_set c.args.current.now c.destination_of-home.result.0 b) put.2;
      landed = rw (c.extract_from.ensures.pointer, c.in-Ok.ensures.place, target) at c.record_landing.ensures;
    }
