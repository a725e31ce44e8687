use Rattle.bucket_slots.proofs.Digests.{AreDigests-refreshed, many_by}
use Rattle.bucket_slots.proofs.bucket_array.BucketArray.refresh.Goals as goal

pub invariant_of-self : goal.invariant_of-self
invariant_of-self g c = (
  c.self.invariant.0,
  AreDigests-refreshed _ _ _ c.args.index _ _ _ (many_by _ c.is_short.ensures.1 c.if-is_short.false) c.self.invariant.1
      c.refresh.ensures.others c.refresh.ensures.refreshed c.digest-live.ensures c.get.ensures,
)
