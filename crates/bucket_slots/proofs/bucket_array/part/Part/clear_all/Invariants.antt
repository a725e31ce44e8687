use Rattle.bucket_slots.proofs.Words.{All, [], empty_bucket, get_or, length, replicate, ℕ, ◌<◌, ◌≡◌}
use Rattle.bucket_slots.proofs.bucket_array.part.Part.clear_all.Given as goal

abbrev pub invariant-loop-index : goal.invariant-loop-index
invariant-loop-index g l = record {
  len : length l.parts.items ≡ length l.fn.parts.items;
  all : (n : ℕ) → All (λ part. length part ≡ n) l.fn.parts.items → All (λ part. length part ≡ n) l.parts.items;
  empty : (n : ℕ) → All (λ part. length part ≡ n) l.fn.parts.items → (i : ℕ) → i < l.index
      → get_or l.parts.items i [] ≡ replicate n empty_bucket;
}
