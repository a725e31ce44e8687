use Rattle.bucket_slots.proofs.OwnSpreading.{IsBucket-counted}
use Rattle.bucket_slots.proofs.bucket.Bucket.spread_own.Goals as goal

pub invariant_of-self : goal.invariant_of-self
invariant_of-self g c =
    let laws = (c.spread.ensures.spread c.self.inside.chain c.self.inside.killed (rw c.self.view_is c.fact_sound.ensures)).1 in
    (c.spread.ensures.tail, IsBucket-counted g.row.TYPE _ _ laws c.self.invariant.1.counted)

pub returns : goal.returns
returns g c =
    rw (← c.self.view_is) (c.spread.ensures.spread c.self.inside.chain c.self.inside.killed (rw c.self.view_is c.fact_sound.ensures)).0
