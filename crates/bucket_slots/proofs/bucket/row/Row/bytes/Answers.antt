use Rattle.bucket_slots.proofs.FirstPlaces.{live_occupied}
use Rattle.bucket_slots.proofs.RowSlots.{byte_held, slot_held}
use Rattle.bucket_slots.proofs.bucket.row.Row.bytes.Goals as goal

pub returns-clause-bytes : goal.returns-clause-bytes
returns-clause-bytes g c = λ pos alive.
    let held = slot_held _ _ _ _ _ _ c.self.invariant c.self.view_is pos in
    byte_held _ _ (live_occupied _ alive).0 held.whole

pub returns-clause-long : goal.returns-clause-long
returns-clause-long g c = c.self.invariant.bytes_long
