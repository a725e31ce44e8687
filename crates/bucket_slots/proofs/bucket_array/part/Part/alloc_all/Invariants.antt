use Rattle.bucket_slots.proofs.Words.{empty_bucket, replicate, vec_capacity, ◌≡◌, ◌≤◌}
use Rattle.bucket_slots.proofs.bucket_array.part.Part.alloc_all.Given as goal

abbrev pub invariant-loop-i : goal.invariant-loop-i
invariant-loop-i g l = record {
  room : l.count ≤ vec_capacity l.parts;
  made : l.parts.items ≡ replicate l._i (replicate l.len empty_bucket);
}
