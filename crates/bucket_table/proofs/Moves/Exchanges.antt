-- One bucket replaced by another, and what that does to all live pairs.
use Rattle.bucket_table.proofs.Words.{BucketView, IsPermutation, IsPermutation-append_right, IsPermutation-trans, List, ℕ, [], arith}
use Rattle.bucket_table.proofs.Words.{bucket_at, cases_eq, entries_among, entries_in, get_or-set_same, inl, inr, length, rotated, set, suc}
use Rattle.bucket_table.proofs.Words.{zero, ◌++◌, ◌<◌, ◌∷◌, ◌≡◌}
use Rattle.std.proofs.lemmas.List.{get_or-set_other, length-set}
use Rattle.bucket_slots.proofs.Entries.{regrouped}

module _ {K V : Type 0} where
  -- another bucket at an index exchanges ys for xs among all, if it does so in the bucket
  pub exchanged : (xs ys : List ((K × V) × ℕ)) (buckets : List (BucketView K V)) (i : ℕ) (b : BucketView K V) → i < length buckets
      → IsPermutation (xs ++ entries_in (bucket_at buckets i)) (ys ++ entries_in b)
      → IsPermutation (xs ++ entries_among buckets) (ys ++ entries_among (set buckets i b))
  exchanged xs ys [] i b h moved = absurd (omega arith)
  exchanged xs ys (c ∷ buckets) zero b h moved = regrouped xs ys (entries_in c) (entries_in b) (entries_among buckets) moved
  exchanged xs ys (c ∷ buckets) (suc i) b h moved = IsPermutation-trans _ _ _ (rotated xs (entries_in c) (entries_among buckets))
      (IsPermutation-trans _ _ _ (IsPermutation-append_right (entries_in c) _ _ (exchanged xs ys buckets i b (omega arith) moved))
      (rotated (entries_in c) ys (entries_among (set buckets i b))))

  -- one bucket of an array changes
  pub record ChangesAt (j : ℕ) (b : BucketView K V) (c d : List (BucketView K V)) : Type 0 where
    pub len : length d ≡ length c
    pub here : bucket_at d j ≡ b
    pub other : (i : ℕ) → (i ≡ j → ⊥) → bucket_at d i ≡ bucket_at c i

  pub changes_at : (j : ℕ) (b : BucketView K V) (c : List (BucketView K V)) → j < length c → ChangesAt j b c (set c j b)
  changes_at j b c within = record {
    len = length-set c j b;
    here = get_or-set_same c j b _ within;
    other = λ i apart. get_or-set_other c j i b _ apart;
  }

  -- what holds of the bucket that changed, and of the others as they were, holds of each
  pub each_after : {j : ℕ} {b : BucketView K V} {c d : List (BucketView K V)} → ChangesAt j b c d → (P : ℕ → BucketView K V → Type 0)
      → P j b → ((i : ℕ) → (i ≡ j → ⊥) → P i (bucket_at c i)) → (i : ℕ) → P i (bucket_at d i)
  each_after {j} put P here others i = elim (cases_eq i j) [
    | inl same ↦ rw (same, put.here) here
    | inr apart ↦ rw (put.other i apart) (others i apart)
  ]
