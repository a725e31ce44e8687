use Rattle.bucket_slots.proofs.OwnWalks.{steps_own}
use Rattle.bucket_slots.proofs.bucket.Bucket.next_own.Goals as goal

pub returns : goal.returns
returns g c =
    let low = c.lowest_bit.ensures in
    let step = steps_own c.args.self.now c.args.at.now c.set.new.self c.args.left _ _ c.requires.own low
    (c.without_lowest.ensures.bits _ low) c.set.ensures in
    record { moves = step.moves; live = step.live; left = step.left }
