use Rattle.bucket_slots.proofs.Bitmaps.{keeps_from}
use Rattle.bucket_slots.proofs.bucket.bits.bits_from.Goals as goal

pub returns : goal.returns
returns c = keeps_from c.args.bits c.args.from c.ranges.bits.fits c.requires
