-- The old buckets that are killed, and that no others are.
use Rattle.bucket_table.proofs.Words.{ArraysView, BucketView, HasWorkedUnits, IsInRange, KillsOnly, List, RelocatesAt, ℕ, arith, cases_eq}
use Rattle.bucket_table.proofs.Words.{empty_bucket, get_or-set_other, inl, inr, length, length-set, subst, sym, ◌*◌, ◌+◌, ◌≡◌, ◌≤◌}
use Rattle.bucket_table.specs.Rehash.Units.{IsDue}

module _ {K V : Type 0} where
  pub only_same : (IsOne : ℕ → Type 0) (old mid new : List (BucketView K V)) → KillsOnly IsOne old mid → new ≡ mid → KillsOnly IsOne old new
  only_same IsOne old mid new only same i alive = rw same (only i alive)

  -- one more bucket is relocated
  pub only_more : (IsOne : ℕ → Type 0) (index : ℕ) (old : List (BucketView K V)) (mid new : ArraysView K V) → KillsOnly IsOne old mid.linked
      → RelocatesAt index mid new → IsOne index → KillsOnly IsOne old new.linked
  only_more IsOne index old mid new only moved one i alive = elim (only i alive) [
    | inl before ↦ inl before
    | inr still ↦ elim (cases_eq i index) [
      | inl same ↦ inl (subst IsOne (sym same) one)
      | inr other ↦ inr (
        rw (moved.linked_is, length-set mid.linked index moved.bucket) still.0,
        rw (moved.linked_is, get_or-set_other mid.linked index i moved.bucket empty_bucket other) still.1,
      )
    ]
  ]

  -- a unit is a range
  pub only_unit : (start end unit : ℕ) (old new : List (BucketView K V)) → KillsOnly (IsInRange start end) old new → start ≡ 64 * unit
      → end ≤ 64 * unit + 64 → KillsOnly (IsInRange (64 * unit) (64 * unit + 64)) old new
  only_unit start end unit old new only at short i alive = elim (only i alive) [
    | inl one ↦ inl (omega (arith, one.0, at), omega (arith, one.1, short))
    | inr still ↦ inr still
  ]

  -- what is due in some steps is due in more steps
  pub due_wider : (A B : ℕ → Type 0) (few more : ℕ) (arrays : ArraysView K V) (i : ℕ) → few ≤ more → ((j : ℕ) → A j → B j)
      → IsDue few A arrays i → IsDue more B arrays i
  due_wider A B few more arrays i less wider due = elim due [
    | inl unit ↦ inl (unit.0, omega (arith, unit.1, less))
    | inr (index, ready, source) ↦ inr (index, wider index ready, source)
  ]

  -- what is due after some steps was due before them
  pub due_before : (A B : ℕ → Type 0) (first second : ℕ) (old mid : ArraysView K V) (i : ℕ) → HasWorkedUnits first old mid
      → length mid.current ≡ length old.current → ((j : ℕ) → A j → B j) → IsDue second A mid i → IsDue (first + second) B old i
  due_before A B first second old mid i run len wider due =
      elim due [
        | inl unit ↦ inl (omega (arith, unit.0, run.least), omega (arith, unit.1, run.most))
        | inr (index, ready, source) ↦ inr (index, wider index ready, rw (run.len, len) at source)
      ]
