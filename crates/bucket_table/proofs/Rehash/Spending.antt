-- Old buckets whose pairs move.
use Rattle.bucket_table.proofs.Words.{ArraysView, BucketView, IsUnmoved, List, RelocatesAt, SpendsSome, ℕ, [], ap, arith, bucket_at}
use Rattle.bucket_table.proofs.Words.{cases_eq, empty_bucket, get_or-set_other, get_or-set_same, inl, inr, length, marks_in, pairs_in, refl}
use Rattle.bucket_table.proofs.Words.{subst, sym, true, ◌<◌, ◌∙◌, ◌≡◌, ◌≤◌}

module _ {K V : Type 0} where
  -- a bucket whose pairs have moved
  abbrev IsSpent : BucketView K V → BucketView K V → Type 0
  IsSpent was bucket = (bucket.killed ≡ true) × (pairs_in bucket ≡ []) × (marks_in bucket ≡ marks_in was)

  pub spends_same : (buckets : List (BucketView K V)) → SpendsSome buckets buckets
  spends_same buckets i = inl refl

  spends_marks : (was is : List (BucketView K V)) (i : ℕ) → SpendsSome was is → marks_in (bucket_at is i) ≡ marks_in (bucket_at was i)
  spends_marks was is i spends = elim (spends i) [
    | inl same ↦ ap marks_in same
    | inr spent ↦ spent.2
  ]

  -- what has moved stays so
  pub spends_both : (first second third : List (BucketView K V)) → SpendsSome first second
      → SpendsSome second third → SpendsSome first third
  spends_both first second third before after i = elim (after i) [
    | inr spent ↦ inr (spent.0, spent.1, spent.2 ∙ spends_marks first second i before)
    | inl same ↦ elim (before i) [
      | inl as_first ↦ inl (same ∙ as_first)
      | inr spent ↦ inr (subst (IsSpent (bucket_at first i)) (sym same) spent)
    ]
  ]

  pub spends_killed : (was is : List (BucketView K V)) (i : ℕ) → SpendsSome was is
      → (bucket_at was i).killed ≡ true → (bucket_at is i).killed ≡ true
  spends_killed was is i spends dead = elim (spends i) [
    | inl same ↦ ap (λ (b : BucketView K V). b.killed) same ∙ dead
    | inr spent ↦ spent.0
  ]

  pub spends_few : (was is : List (BucketView K V)) (i most : ℕ) → SpendsSome was is
      → length (pairs_in (bucket_at was i)) ≤ most → length (pairs_in (bucket_at is i)) ≤ most
  spends_few was is i most spends few = elim (spends i) [
    | inl same ↦ subst (λ (b : BucketView K V). length (pairs_in b) ≤ most) (sym same) few
    | inr spent ↦ subst (λ (ps : List (K × V)). length ps ≤ most) (sym spent.1) (omega arith)
  ]

  -- one bucket is relocated, or isn't
  pub spends_one : (index : ℕ) (old new : ArraysView K V) → RelocatesAt index old new → index < length old.linked
      → SpendsSome old.linked new.linked
  spends_one index old new moved within i =
      rw moved.linked_is (elim (cases_eq i index) [
        | inl here ↦ rw (here, get_or-set_same old.linked index moved.bucket empty_bucket within)
            (inr (moved.is_killed, moved.empty, moved.marks))
        | inr apart ↦ inl (get_or-set_other old.linked index i moved.bucket empty_bucket apart)
      ])

  pub spends_none : (old new : ArraysView K V) → IsUnmoved old new → SpendsSome old.linked new.linked
  spends_none old new same i = inl (ap (λ (bs : List (BucketView K V)). bucket_at bs i) same.linked_is)
