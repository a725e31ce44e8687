-- Tombstones of arrays: none is new when a bucket changes, when a bucket's pairs move, and when an array is made or dropped.
use Rattle.bucket_table.proofs.Words.{ArraysView, BucketView, Current, HasNoNewMark, KeepsEntries, List, MarksBy, Old, Side, ℕ, [], arith}
use Rattle.bucket_table.proofs.Words.{arrays_with, bucket_at, bucket_on, by-no_new, empty_bucket, get_or, length, marks_among, marks_in}
use Rattle.bucket_table.proofs.Words.{tombstones_of, no_new-refl, no_new-trans, refl, set, suc, ◌++◌, ◌∷◌, ◌≡◌}
use Rattle.bucket_slots.proofs.MarksAfter.{by-append, by-set, no_new-append, no_new-at, no_new-both, no_new-front, no_new-rest, no_new-set}

-- lists whose elements have the same parts have the same parts in all
pub all_alike : {A B : Type 0} (parts : A → List B) (all : List A → List B) → all [] ≡ []
    → ((x : A) (xs : List A) → all (x ∷ xs) ≡ parts x ++ all xs) → (none : A) (c d : List A) → length d ≡ length c
    → ((i : ℕ) → parts (get_or d i none) ≡ parts (get_or c i none)) → all d ≡ all c
all_alike parts all empty more none [] [] long each = refl
all_alike parts all empty more none [] (b ∷ d) long each = absurd (omega arith)
all_alike parts all empty more none (a ∷ c) [] long each = absurd (omega arith)
all_alike parts all empty more none (a ∷ c) (b ∷ d) long each =
    rw (more a c, more b d, each 0, all_alike parts all empty more none c d (omega arith) (λ i. each (suc i))) refl

module _ {K V : Type 0} where
  -- another bucket that adds no tombstone
  pub marks_among-set : (c : List (BucketView K V)) (j : ℕ) (b : BucketView K V) → HasNoNewMark (marks_in (bucket_at c j)) (marks_in b)
      → HasNoNewMark (marks_among c) (marks_among (set c j b))
  marks_among-set c j b none = no_new-set marks_in [] c j b empty_bucket none

  -- the tombstones of every bucket are the same
  pub marks_alike : (c d : List (BucketView K V)) → length d ≡ length c
      → ((i : ℕ) → marks_in (bucket_at d i) ≡ marks_in (bucket_at c i)) → marks_among d ≡ marks_among c
  marks_alike c d long each = all_alike marks_in marks_among refl (λ x xs. refl) empty_bucket c d long each

  pub marks_among-kept : (c d : List (BucketView K V)) → KeepsEntries c d → marks_among d ≡ marks_among c
  marks_among-kept c d kept = marks_alike c d kept.len kept.marks

  -- the pairs of bucket `index` have moved, and it is replaced by another bucket that adds no tombstone to what is left
  pub marks_moved : (c l d : List (BucketView K V)) (index : ℕ) (left after : BucketView K V)
      → HasNoNewMark (marks_in (bucket_at l index) ++ marks_among c) (marks_in left ++ marks_among d)
      → HasNoNewMark (marks_in left) (marks_in after)
      → HasNoNewMark (marks_among c ++ marks_among l) (marks_among d ++ marks_among (set l index after))
  marks_moved c l d index left after moved none =
      let here = marks_in (bucket_at l index) in
      let all = marks_among c ++ marks_among l in
      let source = no_new-at marks_in l index empty_bucket refl in
      let turned = no_new-both (marks_among c ++ here) here (marks_among c) (no_new-rest (marks_among c) here)
      (no_new-front (marks_among c) here) in
      let placed = no_new-trans _ _ _ turned moved in
      let came = no_new-trans _ _ _ placed (no_new-rest (marks_in left) (marks_among d)) in
      let stayed = no_new-trans _ _ _ placed (no_new-trans _ _ _ (no_new-front (marks_in left) (marks_among d)) none) in
      let wider = no_new-append (marks_among c) (marks_among l) (marks_among c) here (no_new-refl (marks_among c)) source in
      no_new-both all (marks_among d) (marks_among (set l index after)) (no_new-trans _ _ _ wider came)
      (no_new-set marks_in (marks_among c) l index after empty_bucket stayed)

module _ {K V : Type 0} (epoch : ℕ) where
  by-set_at : (buckets : List (BucketView K V)) (index : ℕ) (left : BucketView K V) → MarksBy epoch (marks_in (bucket_at buckets index))
      (marks_in left)
      → MarksBy epoch (marks_among buckets) (marks_among (set buckets index left))
  by-set_at buckets index left here = by-set epoch marks_in buckets index left empty_bucket refl here

  -- another bucket, whose tombstones are its own or have an epoch
  pub by-bucket : (arrays : ArraysView K V) (side : Side) (index : ℕ) (left : BucketView K V)
      → MarksBy epoch (marks_in (bucket_on arrays side index)) (marks_in left)
      → MarksBy epoch (tombstones_of arrays) (tombstones_of (arrays_with arrays side index left))
  by-bucket arrays Current index left here =
      let rest = marks_among arrays.linked in
      by-append epoch (marks_among arrays.current) rest _ rest (by-set_at arrays.current index left here)
      (by-no_new epoch rest rest (no_new-refl rest))
  by-bucket arrays Old index left here =
      let front = marks_among arrays.current in
      by-append epoch front (marks_among arrays.linked) front _ (by-no_new epoch front front (no_new-refl front))
      (by-set_at arrays.linked index left here)
