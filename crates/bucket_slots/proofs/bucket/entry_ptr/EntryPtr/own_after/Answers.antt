use Rattle.bucket_slots.proofs.OwnWalks.{keeps_none}
use Rattle.bucket_slots.proofs.bucket.entry_ptr.EntryPtr.own_after.Goals as goal

pub returns-then-from-ge-BUCKET_LEN : goal.returns-then-from-ge-BUCKET_LEN
returns-then-from-ge-BUCKET_LEN g c = rw (← c.self.view_is)
    (keeps_none c.args.live (record { block = c.self.inside.block; pos = c.self.inside.pos })
    c.position_after-from.result
    c.ranges.live.fits c.position_after-from.ensures.near c.if-from-ge-BUCKET_LEN.true)
