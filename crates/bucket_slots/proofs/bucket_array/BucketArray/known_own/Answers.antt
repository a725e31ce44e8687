use Rattle.bucket_slots.proofs.Digests.{said_is}
use Rattle.bucket_slots.proofs.OwnWalks.{all_own, own_digest}
use Rattle.bucket_slots.proofs.bucket_array.BucketArray.known_own.Goals as goal

pub returns-then-not-is_stale : goal.returns-then-not-is_stale
returns-then-not-is_stale g c =
    let known = said_is _ c.live-live.result c.is_stale.ensures.1 c.if-not-is_stale.true in
    rw (← c.self.view_is) (all_own _ _ c.args.index _ c.self.invariant.1 c.live-live.ensures known)

pub returns-else-is_stale : goal.returns-else-is_stale
returns-else-is_stale g c =
    let known = said_is _ _ c.is_stale-2.ensures.1 c.if-is_stale.false in
    rw (← c.self.view_is, ← c.get.ensures) (own_digest _ _ _ (c.digest-live.ensures known))
