use Rattle.bucket_slots.proofs.Words.{arith}
use Rattle.bucket_slots.proofs.RowMasks.{length-slots, live_mask}
use Rattle.bucket_slots.proofs.bucket.row.Row.live.Goals as goal

pub returns-clause-mask : goal.returns-clause-mask
returns-clause-mask g c = live_mask _ _ _ _ _ _ c.self.invariant c.self.view_is (omega arith)

pub returns-clause-long : goal.returns-clause-long
returns-clause-long g c = length-slots _ _ _ _ _ _ c.self.invariant c.self.view_is
