-- Old buckets that are relocated one after another.
use Rattle.bucket_table.proofs.Words.{ArraysView, Bool, BucketView, IsUnmoved, List, RelocatesAt, RelocatesSome, WorksUnit, ℕ, arith}
use Rattle.bucket_table.proofs.Words.{bucket_at, cases_eq, empty_bucket, false, false≢true, get_or-set_other, get_or-set_same, inl, inr}
use Rattle.bucket_table.proofs.Words.{length, length-set, refl, set, true, ◌*◌, ◌+◌, ◌<◌, ◌∙◌, ◌≡◌, ◌≢◌, ◌≤◌}
use Rattle.bucket_table.specs.Rehash.Units.{AreKilled, WorksRange}
use Rattle.bucket_table.proofs.Views.Keeping.{kept_both, kept_none}
use Rattle.bucket_table.proofs.Views.Killed.{get_or-killed_flags, length-killed_flags}

-- the old buckets from `start` up to but not including `end` were relocated, and none past them
pub record RelocatesRange {K V : Type 0} (start end : ℕ) (old new : ArraysView K V) : Type 0 where
  pub some : RelocatesSome old new
  pub killed : AreKilled start end new.linked
  pub rest : (i : ℕ) → end ≤ i → bucket_at new.linked i ≡ bucket_at old.linked i

module _ {K V : Type 0} where
  -- no bucket was relocated yet
  pub range_none : (start : ℕ) (arrays : ArraysView K V) → RelocatesRange start start arrays arrays
  range_none start arrays = record {
    some = record { tickets_are = refl; killed = record { len = refl; still = λ i dead. dead }; kept = kept_none arrays };
    killed = λ i low high. absurd (omega arith);
    rest = λ i low. refl;
  }

  -- a bucket that is set, and the others
  pub at_set : (P : BucketView K V → Type 0) (buckets : List (BucketView K V)) (index i : ℕ) (bucket : BucketView K V)
      → index < length buckets → P bucket → (i ≢ index → P (bucket_at buckets i)) → P (bucket_at (set buckets index bucket) i)
  at_set P buckets index i bucket within here apart = elim (cases_eq i index) [
    | inl same ↦ rw (same, get_or-set_same buckets index bucket empty_bucket within) here
    | inr other ↦ rw (get_or-set_other buckets index i bucket empty_bucket other) (apart other)
  ]

  -- one more bucket
  pub range_more : (start index : ℕ) (old between new : ArraysView K V) → RelocatesRange start index old between
      → RelocatesAt index between new
      → index < length between.linked → RelocatesRange start (index + 1) old new
  range_more start index old between new done moved within =
      let dead = λ (b : BucketView K V). b.killed ≡ true in
      record {
        some = record {
          tickets_are = moved.tickets_are ∙ done.some.tickets_are;
          killed = record {
            len = rw moved.linked_is (length-set between.linked index moved.bucket ∙ done.some.killed.len);
            still = λ i was. rw moved.linked_is
                (at_set dead between.linked index i moved.bucket within moved.is_killed (λ other. done.some.killed.still i was));
          };
          kept = kept_both old between new done.some.kept moved.kept;
        };
        killed = λ i low high. rw moved.linked_is
            (at_set dead between.linked index i moved.bucket within moved.is_killed (λ other. done.killed i low (omega arith)));
        rest = λ i low.
            let other : bucket_at new.linked i ≡ bucket_at between.linked i = rw moved.linked_is
            (get_or-set_other between.linked index i moved.bucket empty_bucket (λ e. omega arith)) in
            other ∙ done.rest i (omega arith);
      }

  -- a failure ends the range
  pub some_refused : (start index end : ℕ) (old between new : ArraysView K V) → RelocatesRange start index old between
      → IsUnmoved between new
      → WorksRange start end false old new
  some_refused start index end old between new done same = (
    record {
      tickets_are = same.tickets_are ∙ done.some.tickets_are;
      killed = rw same.linked_is done.some.killed;
      kept = kept_both old between new done.some.kept same.kept;
    },
    λ e. absurd (false≢true e),
  )

  -- the whole range was relocated
  pub some_worked : (start index end : ℕ) (old new : ArraysView K V) → RelocatesRange start index old new → end ≤ index
      → WorksRange start end true old new
  some_worked start index end old new done reaches = (done.some, λ e i low high. done.killed i low (omega arith))

  -- a unit is a range
  pub unit_worked : (start end unit : ℕ) (success : Bool) (old new : ArraysView K V) → WorksRange start end success old new
      → start ≡ 64 * unit
      → ((i : ℕ) → i < 64 * unit + 64 → i < length old.linked → i < end) → WorksUnit unit success old new
  unit_worked start end unit success old new (some, killed) start_is reaches = (
    some,
    λ e i low high within.
        let long = length-killed_flags new.linked in
        let len = some.killed.len in
        let inside : i < length new.linked = omega arith in
        get_or-killed_flags new.linked i inside ∙ killed e i (omega arith) (reaches i high (omega arith)),
  )
