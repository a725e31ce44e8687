use Rattle.bucket_slots.proofs.Words.{empty_bucket, replicate, vec_capacity, ◌≡◌, ◌≤◌}
use Rattle.bucket_slots.proofs.bucket_array.part.empty_buckets.Given as goal

abbrev pub invariant-loop-i : goal.invariant-loop-i
invariant-loop-i g l = record {
  room : l.len ≤ vec_capacity l.buckets;
  made : l.buckets.items ≡ replicate l._i empty_bucket;
}
