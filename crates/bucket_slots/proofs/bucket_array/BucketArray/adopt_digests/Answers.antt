use Rattle.bucket_slots.proofs.Digests.{AreDigests-none}
use Rattle.bucket_slots.proofs.bucket_array.BucketArray.adopt_digests.Goals as goal

pub invariant_of-self : goal.invariant_of-self
invariant_of-self g c = (c.self.invariant.0, AreDigests-none _ _ c.restart.ensures)

pub invariant_of-from : goal.invariant_of-from
invariant_of-from g c = (c.from.invariant.0, AreDigests-none _ _ (rw c.replace-digests.ensures.after c.none.ensures))
