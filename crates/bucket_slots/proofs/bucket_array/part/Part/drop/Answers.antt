use Rattle.bucket_slots.proofs.Words.{arith}
use Rattle.bucket_slots.proofs.ArrayParts.{one_fits}
use Rattle.bucket_slots.proofs.bucket_array.part.Part.drop.Goals as goal

pub drop-requires-room-T-Destruct : goal.drop-requires-room-T-Destruct
drop-requires-room-T-Destruct g c κs within =
    one_fits _ _ (omega (arith, c.if-len-gt0.true, c.len.ensures, c.as_slice.ensures.len)) c.as_slice.type_inv.1
