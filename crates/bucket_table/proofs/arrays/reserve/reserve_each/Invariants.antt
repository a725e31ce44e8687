use Rattle.bucket_table.proofs.Moves.RoomMade.{IsReserving}
use Rattle.bucket_table.proofs.arrays.reserve.reserve_each.Given as goal

abbrev pub invariant-counts : goal.invariant-counts
invariant-counts g l = IsReserving l.start l.counts l.initial.current l.current l.k
