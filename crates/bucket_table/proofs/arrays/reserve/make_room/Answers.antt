use Rattle.bucket_table.proofs.Words.{arith, length, pairs_in, ◌≤◌}
use Rattle.bucket_table.proofs.Moves.Relocating.{ready_reserved, ready_unreserved}
use Rattle.bucket_table.proofs.Moves.RoomMade.{KeepsEntries-refl}
use Rattle.bucket_table.proofs.arrays.reserve.make_room.Goals.{then-to-from-via-else-to-from+then-len-gt-BUCKET_LEN}
use Rattle.bucket_table.proofs.arrays.reserve.make_room.Goals.{then-to-from-via-then-to-from}
use Rattle.bucket_table.proofs.arrays.reserve.make_room.Goals as goal

pub returns-then-to-from-clause-ready : goal.returns-then-to-from-clause-ready
returns-then-to-from-clause-ready g c =
    ready_reserved (g.H.KeyHash.hash_of c.args.hasher.now) c.reserve_targets.result c.requires c.reserve_targets.ensures.kept
    c.reserve_targets.ensures.room

pub returns-then-to-from-clause-never_refused : goal.returns-then-to-from-clause-never_refused
returns-then-to-from-clause-never_refused g c = λ le few.
    elim c.then-to-from.branch [
      | then-to-from-via-then-to-from w ↦ absurd (omega (arith, w.if-to-from.true, le, c.len-to.ensures.value))
      | then-to-from-via-else-to-from+then-len-gt-BUCKET_LEN w ↦
          absurd (omega (arith, w.if-len-gt-BUCKET_LEN.true, few, w.len.ensures))
    ]

pub returns-clause-ready : goal.returns-clause-ready
returns-clause-ready g c =
    let le : c.args.from ≤ length c.args.current.now = omega (arith, c.if-to-from.false, c.len-to.ensures.value) in
    let few : length (pairs_in c.args.source.now) ≤ 32 = omega (arith, c.len.ensures, c.if-len-gt-BUCKET_LEN.false) in
    ready_unreserved (g.H.KeyHash.hash_of c.args.hasher.now) c.requires le few

pub returns-clause-kept : goal.returns-clause-kept
returns-clause-kept g c = KeepsEntries-refl c.args.current.now
