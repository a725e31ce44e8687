use Rattle.bucket_slots.proofs.Words.{arith, is_live}
use Rattle.bucket_slots.proofs.Counting.{length-live_pairs}
use Rattle.bucket_slots.proofs.Masks.{ones-mask}
use Rattle.bucket_slots.proofs.bucket.row.Row.live_len.Goals as goal

pub returns : goal.returns
returns g c = omega (arith, length-live_pairs c.args.self.now, ones-mask is_live c.args.self.now _ c.live.ensures.mask)
