use Rattle.bucket_slots.proofs.Digests.{AreDigests-none}
use Rattle.bucket_slots.proofs.bucket_array.BucketArray.restart_digests.Goals as goal

pub invariant_of-self : goal.invariant_of-self
invariant_of-self g c = (c.self.invariant.0, AreDigests-none _ _ c.restart.ensures)
