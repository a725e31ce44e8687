-- All pairs of two arrays, split into those of one current bucket and those elsewhere.
use Rattle.bucket_table.proofs.Words.{AllByRecursion, ArePlaced, AreSourcesKilled, ArraysView, Bool, BucketView, Current, IsEntryHome}
use Rattle.bucket_table.proofs.Words.{IsInInterval, IsPermutation, IsPermutation-append_left, IsPermutation-append_right, IsPermutation-map}
use Rattle.bucket_table.proofs.Words.{IsPermutation-refl, IsPermutation-sym, IsPermutation-trans, List, [], ap, append-nil, append_assoc}
use Rattle.bucket_table.proofs.Words.{arith, arrays_with, bucket_at, bucket_on, cases_Bool, empty_bucket, entries_among, entries_in}
use Rattle.bucket_table.proofs.Words.{entries_of, false, filter, filter-append, get_or-set_same, inl, inr, length, length-set, map}
use Rattle.bucket_table.proofs.Words.{map-append, map-entries_in, not, not_from_false, not_from_true, pairs_in, pairs_of}
use Rattle.bucket_table.proofs.Words.{recursion_from_All, refl, set, subst, suc, sym, true, zero, ℕ, ◌++◌, ◌<◌, ◌∙◌, ◌∷◌, ◌≡◌}
use Rattle.bucket_table.proofs.Walking.Bounds.{is_in, is_inside, is_out}
use Rattle.bucket_table.proofs.Walking.Each.{each_append, each_implies, each_map, to_front}
use Rattle.bucket_table.proofs.Walking.Filters.{IsPermutation-filter, filter_all, filter_none}
use Rattle.bucket_table.proofs.Views.Killed.{no_entries}

module _ {K V : Type 0} where
  -- the entries of all buckets but one
  abbrev pub others : List (BucketView K V) → ℕ → List ((K × V) × ℕ)
  others [] i = []
  others (b ∷ bs) zero = entries_among bs
  others (b ∷ bs) (suc i) = entries_in b ++ others bs i

  split_at : (bs : List (BucketView K V)) (i : ℕ) → i < length bs
      → IsPermutation (entries_among bs) (entries_in (bucket_at bs i) ++ others bs i)
  split_at [] i h = absurd (omega arith)
  split_at (b ∷ bs) zero h = IsPermutation-refl (entries_in b ++ entries_among bs)
  split_at (b ∷ bs) (suc i) h =
      IsPermutation-trans _ _ _ (IsPermutation-append_right (entries_in b) _ _ (split_at bs i (omega arith)))
      (to_front (entries_in b) (entries_in (bucket_at bs i)) (others bs i))

  others_set : (bs : List (BucketView K V)) (i : ℕ) (x : BucketView K V) → others (set bs i x) i ≡ others bs i
  others_set [] i x = refl
  others_set (b ∷ bs) zero x = refl
  others_set (b ∷ bs) (suc i) x = ap (λ es. entries_in b ++ es) (others_set bs i x)

  split_set : (bs : List (BucketView K V)) (i : ℕ) (x : BucketView K V) → i < length bs
      → IsPermutation (entries_among (set bs i x)) (entries_in x ++ others bs i)
  split_set bs i x below =
      let there : bucket_at (set bs i x) i ≡ x = get_or-set_same bs i x empty_bucket below in
      let parts = split_at (set bs i x) i (omega (arith, length-set bs i x, below)) in
      rw (← others_set bs i x) (subst (λ b. IsPermutation (entries_among (set bs i x)) (entries_in b ++ others (set bs i x) i)) there parts)

  pub all_entries : (P : (K × V) × ℕ → Type 0) (bs : List (BucketView K V))
      → ((j : ℕ) → j < length bs → AllByRecursion P (entries_in (bucket_at bs j))) → AllByRecursion P (entries_among bs)
  all_entries P [] h = tt
  all_entries P (b ∷ bs) h = each_append P (entries_in b) (entries_among bs) (h 0 (omega arith))
      (all_entries P bs (λ j below. h (suc j) (omega arith)))

  all_others : (P : (K × V) × ℕ → Type 0) (bs : List (BucketView K V)) (i : ℕ)
      → ((j : ℕ) → j < length bs → (j ≡ i → ⊥) → AllByRecursion P (entries_in (bucket_at bs j))) → AllByRecursion P (others bs i)
  all_others P [] i h = tt
  all_others P (b ∷ bs) zero h = all_entries P bs (λ j below. h (suc j) (omega arith) (λ e. omega arith))
  all_others P (b ∷ bs) (suc i) h = each_append P (entries_in b) (others bs i) (h 0 (omega arith) (λ e. omega arith))
      (all_others P bs i (λ j below other. h (suc j) (omega arith) (λ e. other (omega arith))))

  abbrev pub first_of_entry : (K × V) × ℕ → K × V
  first_of_entry e = e.0

module _ {K V : Type 0} (hash : K → ℕ) where
  -- the bucket's entries all have their home there, and the others are elsewhere; replacing the bucket changes only its entries
  pub record SplitsAt (arrays : ArraysView K V) (i : ℕ) : Type 0 where
    pub rest : List ((K × V) × ℕ)
    pub before : IsPermutation (entries_of arrays) (entries_in (bucket_on arrays Current i) ++ rest)
    pub at_home : AllByRecursion (λ e. IsInInterval (length arrays.current) i (hash e.0.0)) (entries_in (bucket_on arrays Current i))
    pub elsewhere : AllByRecursion (λ e. IsInInterval (length arrays.current) i (hash e.0.0) → ⊥) rest
    pub after : (b : BucketView K V) → IsPermutation (entries_of (arrays_with arrays Current i b)) (entries_in b ++ rest)

  pub splits : (arrays : ArraysView K V) (i : ℕ) → ArePlaced hash arrays
      → i < length arrays.current → AreSourcesKilled arrays i → SplitsAt arrays i
  splits arrays i law within ready =
      let c = arrays.current in
      let l = arrays.linked in
      let n : ℕ = length c in
      let Away : (K × V) × ℕ → Type 0 = λ e. IsInInterval n i (hash e.0.0) → ⊥ in
      record {
        rest = others c i ++ entries_among l;
        before = subst (IsPermutation (entries_among c ++ entries_among l)) (append_assoc (entries_in (bucket_at c i)) (others c i)
            (entries_among l)) (IsPermutation-append_left (entries_among l) _ _ (split_at c i within));
        at_home = each_implies _ (λ e h. h.home.own) (recursion_from_All (IsEntryHome hash n i) _ (law.homes.current_home i within));
        elsewhere = each_append Away (others c i) (entries_among l)
            (all_others Away c i (λ j below other. each_implies _ (λ e h own. other (sym (h.home.the_one i own)))
            (recursion_from_All (IsEntryHome hash n j) _ (law.homes.current_home j below))))
            (all_entries Away l (λ k below. elim (cases_Bool (bucket_at l k).killed) [
              | inl killed ↦ subst (AllByRecursion Away) (sym (no_entries (bucket_at l k) (law.homes.killed_empty k below killed))) tt
              | inr alive ↦ each_implies _
                  (λ e h own. let dead : (bucket_at l k).killed ≡ true = ready k below (hash e.0.0, h.home.own, own) in absurd cc)
                  (recursion_from_All (IsEntryHome hash (length l) k) _ (law.homes.linked_home k below))
            ]));
        after = λ b. subst (IsPermutation (entries_among (set c i b) ++ entries_among l))
            (append_assoc (entries_in b) (others c i) (entries_among l))
            (IsPermutation-append_left (entries_among l) _ _ (split_set c i b within));
      }

  module _ (arrays : ArraysView K V) (i : ℕ) (s : SplitsAt arrays i) where
    abbrev pub inside : K × V → Bool
    inside pair = is_inside (length arrays.current) i (hash pair.0)

    abbrev pub outside : K × V → Bool
    outside pair = not (is_inside (length arrays.current) i (hash pair.0))

    abbrev pub rest_pairs : List (K × V)
    rest_pairs = map first_of_entry s.rest

    pairs_split : (b : BucketView K V) (new : List ((K × V) × ℕ))
        → IsPermutation new (entries_in b ++ s.rest) → IsPermutation (map first_of_entry new) (pairs_in b ++ rest_pairs)
    pairs_split b new moved = subst (λ ps. IsPermutation (map first_of_entry new) (ps ++ rest_pairs)) (map-entries_in b)
        (subst (IsPermutation (map first_of_entry new)) (map-append first_of_entry (entries_in b) s.rest)
        (IsPermutation-map first_of_entry _ _ moved))

    pairs_at_home : AllByRecursion (λ pair. inside pair ≡ true) (pairs_in (bucket_on arrays Current i))
    pairs_at_home = subst (AllByRecursion (λ pair. inside pair ≡ true)) (map-entries_in (bucket_on arrays Current i))
        (each_map (λ pair. inside pair ≡ true) first_of_entry _ (each_implies _ (λ e h. is_in _ _ (hash e.0.0) h.0 h.1) s.at_home))

    rest_elsewhere : AllByRecursion (λ pair. inside pair ≡ false) rest_pairs
    rest_elsewhere = each_map (λ pair. inside pair ≡ false) first_of_entry _
        (each_implies _ (λ e h. is_out _ _ (hash e.0.0) (λ low high. h (low, high))) s.elsewhere)

    -- a filter selects from the bucket's pairs and from the others
    filtered : (p : K × V → Bool) → IsPermutation (filter p (pairs_of arrays))
        (filter p (pairs_in (bucket_on arrays Current i)) ++ filter p rest_pairs)
    filtered p = subst (IsPermutation (filter p (pairs_of arrays))) (filter-append p (pairs_in (bucket_on arrays Current i)) rest_pairs)
        (IsPermutation-filter p _ _ (pairs_split (bucket_on arrays Current i) (entries_of arrays) s.before))

    -- the bucket has the pairs whose home it is
    pub taken_there : IsPermutation (filter inside (pairs_of arrays)) (pairs_in (bucket_on arrays Current i))
    taken_there =
        let lent = pairs_in (bucket_on arrays Current i) in
        let all = filter_all inside lent pairs_at_home in
        let none = filter_none inside rest_pairs rest_elsewhere in
        subst (IsPermutation (filter inside (pairs_of arrays))) ((λ j. all j ++ none j) ∙ append-nil lent) (filtered inside)

    stayed : IsPermutation (filter outside (pairs_of arrays)) rest_pairs
    stayed =
        let none = filter_none outside _ (each_implies _ (λ p e. not_from_true (inside p) e) pairs_at_home) in
        let all = filter_all outside rest_pairs (each_implies _ (λ p e. not_from_false (inside p) e) rest_elsewhere) in
        subst (IsPermutation (filter outside (pairs_of arrays))) (λ j. none j ++ all j) (filtered outside)

    -- if the bucket is replaced, its pairs are replaced
    pub changed_there : (b : BucketView K V) → IsPermutation
        (pairs_in b ++ filter outside (pairs_of arrays)) (pairs_of (arrays_with arrays Current i b))
    changed_there b =
        IsPermutation-trans _ _ _ (IsPermutation-append_right (pairs_in b) _ _ stayed)
        (IsPermutation-sym _ _ (pairs_split b (entries_of (arrays_with arrays Current i b)) (s.after b)))
