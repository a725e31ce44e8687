use Rattle.bucket_table.proofs.Words.{refl}
use Rattle.bucket_table.proofs.Rehash.TicketSteps.{kills_as, no_bucket, refuses_as}
use Rattle.bucket_table.proofs.script.work.Goals as goal

pub returns-then-not-has_old_bucket-clause-tickets : goal.returns-then-not-has_old_bucket-clause-tickets
returns-then-not-has_old_bucket-clause-tickets g c = (
  no_bucket c.args.index c.args.table.now.arrays c.has_old_bucket.ensures
      c.if-not-has_old_bucket.true,
  refl,
)

pub returns-in-Ok-clause-tickets : goal.returns-in-Ok-clause-tickets
returns-in-Ok-clause-tickets g c =
    kills_as c.args.index c.args.table.now.arrays c.relocate_bucket_sync.new.self.arrays
    (c.has_old_bucket.ensures.0 c.if-not-has_old_bucket.false) c.in-Ok.ensures.done

pub returns-in-Err-clause-tickets : goal.returns-in-Err-clause-tickets
returns-in-Err-clause-tickets g c =
    refuses_as c.args.index c.args.table.now.arrays c.relocate_bucket_sync.new.self.arrays
    (c.has_old_bucket.ensures.0 c.if-not-has_old_bucket.false)
    c.in-Err.ensures.refused c.in-Err.ensures.alive
