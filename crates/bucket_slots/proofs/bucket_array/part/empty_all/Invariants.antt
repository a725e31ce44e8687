use Rattle.bucket_slots.proofs.Words.{empty_bucket, get_or, length, ℕ, ◌<◌, ◌≡◌}
use Rattle.bucket_slots.proofs.bucket_array.part.empty_all.Given as goal

abbrev pub invariant-loop-index : goal.invariant-loop-index
invariant-loop-index g l = record {
  len : length l.buckets.items ≡ length l.fn.buckets.items;
  empty : (i : ℕ) → i < l.index → get_or l.buckets.items i empty_bucket ≡ empty_bucket;
}
