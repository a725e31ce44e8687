-- How many pairs a walk is lent, and which ones it isn't.
use Rattle.bucket_table.proofs.Words.{Bool, BucketView, IsLength, List, [], and_from, ap, arith, bound_of, cases_Bool, cases_lt, false}
use Rattle.bucket_table.proofs.Words.{filter, filter_agree, has_home_in, inl, inr, interval_width, le-leb, leb-true, length}
use Rattle.bucket_table.proofs.Words.{length_permutation, mul-le-mul_right, nat_le, not, not_from_false, not_from_true, pairs_in, refl}
use Rattle.bucket_table.proofs.Words.{subst, sym, true, true≢false, ℕ, ◌&&◌, ◌+◌, ◌<◌, ◌^◌, ◌∙◌, ◌∷◌, ◌≡◌, ◌≤◌}
use Rattle.std.proofs.lemmas.Bool.{and_left, and_right, lt-leb}
use Rattle.std.proofs.lemmas.List.Filters.{length-filter_both}
use Rattle.bucket_table.specs.Walking.Visits.{Visited}
use Rattle.bucket_table.specs.Walking.Walks.{AreLent}
use Rattle.bucket_table.proofs.Walking.Bounds.{all_hashes, is_in, is_out, next_multiple}
use Rattle.bucket_table.proofs.Walking.Each.{each}
use Rattle.bucket_table.proofs.Walking.Filters.{filter_all, filter_filter, filter_none}

-- the number of pairs that were lent
abbrev pub lent_len : {K V : Type 0} → List (Visited (BucketView K V)) → ℕ
lent_len [] = 0
lent_len (visit ∷ visits) = length (pairs_in visit.lent) + lent_len visits

module _ {K V : Type 0} (hash : K → ℕ) (len : ℕ) where
  -- the hash is one of bucket i or of a later bucket
  abbrev pub is_from : ℕ → K × V → Bool
  is_from i p = nat_le (bound_of len i) (hash p.0)

  later_too : (i : ℕ) (p : K × V) → is_from (i + 1) p ≡ true → is_from i p ≡ true
  later_too i p e =
      let h = leb-true (bound_of len (i + 1)) (hash p.0) e in
      le-leb (bound_of len i) (hash p.0) (omega (arith, h, next_multiple i (interval_width len)))

  from_later : (i : ℕ) (p : K × V) → (is_from i p && is_from (i + 1) p) ≡ is_from (i + 1) p
  from_later i p = elim (cases_Bool (is_from (i + 1) p)) [
    | inl late ↦ and_from (is_from i p) (is_from (i + 1) p) (later_too i p late) late ∙ sym late
    | inr early ↦ and_right (is_from i p) (is_from (i + 1) p) early ∙ sym early
  ]

  from_here : (i : ℕ) (p : K × V) → (is_from i p && not (is_from (i + 1) p)) ≡ has_home_in hash len i (i + 1) p
  from_here i p = elim (cases_lt (hash p.0) (bound_of len (i + 1))) [
    | inl less ↦
        let late : is_from (i + 1) p ≡ false = lt-leb (bound_of len (i + 1)) (hash p.0) less in
        elim (cases_Bool (is_from i p)) [
          | inl from ↦
              and_from (is_from i p) (not (is_from (i + 1) p)) from (not_from_false (is_from (i + 1) p) late)
              ∙ sym (is_in (bound_of len i) (bound_of len (i + 1)) (hash p.0) (leb-true (bound_of len i) (hash p.0) from) less)
          | inr below ↦
              and_left (is_from i p) (not (is_from (i + 1) p)) below ∙ sym (is_out (bound_of len i) (bound_of len (i + 1)) (hash p.0)
              (λ low high. true≢false (sym (le-leb (bound_of len i) (hash p.0) low) ∙ below)))
        ]
    | inr more ↦
        let late : is_from (i + 1) p ≡ true = le-leb (bound_of len (i + 1)) (hash p.0) more in
        and_right (is_from i p) (not (is_from (i + 1) p)) (not_from_true (is_from (i + 1) p) late)
        ∙ sym (is_out _ _ (hash p.0) (λ low high. omega (arith, more, high)))
  ]

  counted_here : (i : ℕ) (ps : List (K × V)) → length (filter (is_from (i + 1)) ps) + length (filter (has_home_in hash len i (i + 1)) ps)
      ≡ length (filter (is_from i) ps)
  counted_here i ps =
      let late : K × V → Bool = is_from (i + 1) in
      let both = length-filter_both late (λ p. not (late p)) (λ p. refl) (filter (is_from i) ps) in
      let first = ap length (filter_filter (is_from i) late ps ∙ filter_agree (λ p. is_from i p && late p) late (from_later i) ps) in
      let second = ap length (filter_filter (is_from i) (λ p. not (late p)) ps
      ∙ filter_agree (λ p. is_from i p && not (late p)) (has_home_in hash len i (i + 1)) (from_here i) ps) in
      omega (arith, both, first, second)

  -- the pairs that were lent, and those after them
  pub counted_from : (i : ℕ) (ps : List (K × V)) (visits : List (Visited (BucketView K V))) → AreLent hash len ps i visits
      → lent_len visits + length (filter (is_from (i + length visits)) ps) ≡ length (filter (is_from i) ps)
  counted_from i ps [] lent =
      let e : i + 0 ≡ i = omega arith in
      let same = ap (λ (k : ℕ). length (filter (is_from k) ps)) e in
      omega (arith, same)
  counted_from i ps (v ∷ visits) lent =
      let rest = counted_from (i + 1) ps visits lent.1 in
      let here = counted_here i ps in
      let own = length_permutation _ _ lent.0 in
      let e : i + length (v ∷ visits) ≡ i + 1 + length visits = omega arith in
      let same = ap (λ (k : ℕ). length (filter (is_from k) ps)) e in
      omega (arith, rest, here, own, same)

  -- the pairs outside the first buckets are those with later hashes
  pub outside_is_from : (m : ℕ) (p : K × V) → not (has_home_in hash len 0 (0 + m) p) ≡ is_from m p
  outside_is_from m p =
      let e : 0 + m ≡ m = omega arith in
      subst (λ (k : ℕ). not (has_home_in hash len 0 k p) ≡ is_from m p) (sym e) (elim (cases_lt (hash p.0) (bound_of len m)) [
        | inl less ↦ not_from_true _ (is_in (bound_of len 0) (bound_of len m) (hash p.0) (omega arith) less)
            ∙ sym (lt-leb (bound_of len m) (hash p.0) less)
        | inr more ↦ not_from_false _ (is_out (bound_of len 0) (bound_of len m) (hash p.0) (λ low high. omega (arith, more, high)))
            ∙ sym (le-leb (bound_of len m) (hash p.0) more)
      ])

  -- all hashes are from the first on
  pub all_from : (ps : List (K × V)) → filter (is_from 0) ps ≡ ps
  all_from ps = filter_all (is_from 0) ps (each (λ p. le-leb (bound_of len 0) (hash p.0) (omega arith)) ps)

  -- and none is past the last
  pub none_past : (m : ℕ) (ps : List (K × V)) → (len ≡ 0 → ps ≡ []) → (0 < len → IsLength len) → ((k : K) → hash k < 2 ^ 64) → len ≤ m
      → filter (is_from m) ps ≡ []
  none_past m ps empty long fits reached = elim (cases_lt 0 len) [
    | inl some ↦
        let top : 2 ^ 64 ≤ bound_of len m = subst (λ (k : ℕ). k ≤ bound_of len m) (all_hashes len (long some))
        (mul-le-mul_right (interval_width len) reached) in
        filter_none (is_from m) ps (each (λ p. lt-leb (bound_of len m) (hash p.0) (omega (arith, top, fits p.0))) ps)
    | inr none ↦
        let is : len ≡ 0 = omega (arith, none) in
        rw (empty is) refl
  ]
