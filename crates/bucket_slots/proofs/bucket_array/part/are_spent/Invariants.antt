use Rattle.bucket_slots.proofs.Words.{empty_bucket, get_or, length, true, unmade_bucket, vec_len, ℕ, ◌<◌, ◌≡◌, ◌≤◌}
use Rattle.bucket_slots.proofs.bucket_array.part.are_spent.Given as goal

abbrev pub invariant-loop-left : goal.invariant-loop-left
invariant-loop-left g l = record {
  within : l.left ≤ vec_len l.made;
  spent : (i : ℕ) → l.left ≤ i → i < length l.made.items → get_or l.made.items i empty_bucket ≡ unmade_bucket true;
}

abbrev pub decreases-loop-left : goal.decreases-loop-left
decreases-loop-left g l = l.left
