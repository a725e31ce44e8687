use Rattle.bucket_slots.proofs.Words.{◌≡◌}
use Rattle.bucket_slots.proofs.bucket_array.BucketArray.start_digests.Given as goal

abbrev pub invariant-loop-index : goal.invariant-loop-index
invariant-loop-index g l = l.self ≡ l.fn.self
