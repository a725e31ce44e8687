use Rattle.bucket_table.proofs.Words.{ap, pairs_ahead, refl, ◌∙◌}
use Rattle.bucket_table.proofs.Map.LockedSteps.{put_there}
use Rattle.bucket_table.proofs.arrays.Arrays.mark_slot.Goals as goal

pub returns-clause-arrays : goal.returns-clause-arrays
returns-clause-arrays g c = rw (c.refresh_on.ensures, c.mark_removed.ensures.slots, c.bucket_of_mut-bucket.ensures.bucket) refl

pub returns-clause-pairs_ahead : goal.returns-clause-pairs_ahead
returns-clause-pairs_ahead g c =
    rw (c.refresh_on.ensures, put_there c.args.self.now c.args.side c.args.index c.mark_removed.new.self c.requires.within)
    (c.mark_removed.ensures.pairs_ahead ∙ ap (λ b. pairs_ahead b c.args.at.now) c.bucket_of_mut-bucket.ensures.bucket)

pub returns-clause-left : goal.returns-clause-left
returns-clause-left g c =
    rw (c.refresh_on.ensures, put_there c.args.self.now c.args.side c.args.index c.mark_removed.new.self c.requires.within)
    c.len-left.ensures
