use Rattle.bucket_slots.proofs.OwnWalks.{own_after, some_after}
use Rattle.bucket_slots.proofs.bucket.Bucket.own_after.Goals as goal

pub returns-clause-own : goal.returns-clause-own
returns-clause-own g c = λ own.
    own_after c.args.self.now c.live.result c.args.at.now _ (rw (← c.self.view_is) c.live.ensures.mask)
    c.own_after.ensures own

pub returns-clause-some : goal.returns-clause-some
returns-clause-some g c = λ some.
    some_after c.args.self.now c.live.result c.args.at.now _ (rw (← c.self.view_is) c.live.ensures.mask)
    c.own_after.ensures some
