use Rattle.bucket_slots.proofs.Words.{arith}
use Rattle.bucket_slots.proofs.ArrayParts.{one_fits, some_beside}
use Rattle.bucket_slots.proofs.bucket_array.buckets.Buckets.fact_room.Goals as goal

pub returns : goal.returns
returns g c = one_fits _ _ (omega (arith, some_beside c.self.invariant.0, c.as_slice.ensures.len)) c.as_slice.type_inv.1
