-- The carried LRU order, by keys: which of a bucket's listed pairs are in own slots of a target, if no two keys are equal.
use Rattle.bucket_table.proofs.Words.{ArraysView, Bool, BucketView, CarriesRecency, Contains-append_left, Contains-append_right, Err}
use Rattle.bucket_table.proofs.Words.{HasLanded, IsDistinct, IsDistinct-IsPermutation, IsEquivalence, IsOneMap, IsPermutation-append_left}
use Rattle.bucket_table.proofs.Words.{IsPermutation-map, IsPermutation-refl, List, None, Ok, OnOk, Option, Result, Slot, Some}
use Rattle.bucket_table.proofs.Words.{StandsInChain, ℕ, [], ap, append-nil, arith, bucket_at, cases_Bool, cases_eq, cases_lt, empty_bucket}
use Rattle.bucket_table.proofs.Words.{entries_among, entries_in, eq-eqb, eqb-true, false, filter_map-append, flattened, free, get_or}
use Rattle.bucket_table.proofs.Words.{get_or-map, get_or_default, get_or_past, if◌then◌else◌, inl, inr, is_listed, length, length-append}
use Rattle.bucket_table.proofs.Words.{length-map, listed_pairs, live, live_pair, live_pairs, map, map-append, map-entries_in, marked}
use Rattle.bucket_table.proofs.Words.{or_left, or_right, pairs_in, refl, set, slot_at, subst, suc, sym, true, zero, ◌++◌, ◌+◌, ◌<◌, ◌==◌}
use Rattle.bucket_table.proofs.Words.{◌∙◌, ◌∷◌, ◌≡◌}
use Rattle.std.proofs.lemmas.List.Folds.{list_any_at, list_any_none}
use Rattle.std.proofs.Common.{Contains, IsPermutation, append_assoc}
use Rattle.std.proofs.lemmas.Bool.{eqb-false}
use Rattle.std.proofs.lemmas.List.{get_or-append-add, get_or-set_other}
use Rattle.std.proofs.lemmas.Map.Keys.{apart_from_distinct}
use Rattle.std.specs.List.{filter}
use Rattle.bucket_table.specs.Rehash.Carrying.{CarriesPairs, has_own_key}
use Rattle.bucket_table.specs.Layout.Landings.{is_own_of}
use Rattle.bucket_table.proofs.Moves.Exchanges.{exchanged}
use Rattle.bucket_table.proofs.Moves.Staying.{get_or-front}

module _ {K V : Type 0} where
  abbrev pub keys : List (K × V) → List K
  keys pairs = map (λ (p : K × V). p.0) pairs

  -- pairs of two parts of a list without equal keys
  parts_apart : (eq : K → K → Bool) (xs ys : List (K × V)) (p q : K × V) → IsDistinct eq (keys (xs ++ ys)) → Contains xs q → Contains ys p
      → eq q.0 p.0 ≡ false
  parts_apart eq xs ys p q once here there =
      let all = xs ++ ys in
      let long : length all ≡ length xs + length ys = length-append xs ys in
      let apart = apart_from_distinct eq (keys all) here.0 (length xs + there.0) q.0 once (omega (arith, here.1))
      (omega (arith, there.1, long, length-map all (λ (r : K × V). r.0))) in
      let first : get_or (keys all) here.0 q.0 ≡ q.0 =
      get_or-map (λ (r : K × V). r.0) all here.0 q q.0 (omega (arith, here.1, long)) ∙ ap (λ (r : K × V). r.0)
      (get_or-front xs ys here.0 q here.1 ∙ here.2) in
      let second : get_or (keys all) (length xs + there.0) q.0 ≡ p.0 =
      get_or-map (λ (r : K × V). r.0) all (length xs + there.0) p q.0 (omega (arith, there.1, long)) ∙ ap (λ (r : K × V). r.0)
      (get_or-append-add xs ys there.0 p ∙ there.2) in
      ap (λ (k : K). eq k p.0) (sym first) ∙ ap (λ (k : K). eq (get_or (keys all) here.0 q.0) k) (sym second) ∙ apart

  abbrev pub pairs_among : List (BucketView K V) → List (K × V)
  pairs_among c = map (λ (e : (K × V) × ℕ). e.0) (entries_among c)

  pairs_among-cons : (b : BucketView K V) (c : List (BucketView K V)) → pairs_among (b ∷ c) ≡ pairs_in b ++ pairs_among c
  pairs_among-cons b c =
      map-append (λ (e : (K × V) × ℕ). e.0) (entries_in b) (entries_among c) ∙ ap (λ (l : List (K × V)). l ++ pairs_among c)
      (map-entries_in b)

  -- a pair of a bucket is one of all pairs
  among : (c : List (BucketView K V)) (i : ℕ) (p : K × V) → Contains (pairs_in (bucket_at c i)) p → Contains (pairs_among c) p
  among [] i p has = absurd (omega (arith, has.1))
  among (b ∷ c) zero p has = rw (pairs_among-cons b c) (Contains-append_left (pairs_in b) (pairs_among c) p has)
  among (b ∷ c) (suc i) p has =
      rw (pairs_among-cons b c) (Contains-append_right (pairs_in b) (pairs_among c) p (among c i p has))

  pub in_own : (b : BucketView K V) (p : K × V) → Contains (live_pairs b.own) p → Contains (pairs_in b) p
  in_own b p has = subst (λ (l : List (K × V)). Contains l p) (sym (filter_map-append live_pair b.own (flattened b.chain)))
      (Contains-append_left (live_pairs b.own) (live_pairs (flattened b.chain)) p has)

  pub in_chain : (b : BucketView K V) (p : K × V) → StandsInChain b p → Contains (pairs_in b) p
  in_chain b p has = subst (λ (l : List (K × V)). Contains l p) (sym (filter_map-append live_pair b.own (flattened b.chain)))
      (Contains-append_right (live_pairs b.own) (live_pairs (flattened b.chain)) p has)

  -- the pairs that aren't in own slots of bucket j
  abbrev others : List (BucketView K V) → List (K × V) → ℕ → List (K × V)
  others c more j = live_pairs (flattened (bucket_at c j).chain) ++ (pairs_among (set c j empty_bucket) ++ more)

  split_at : (c : List (BucketView K V)) (more : List (K × V)) (j : ℕ) → j < length c
      → IsPermutation (pairs_among c ++ more) (live_pairs (bucket_at c j).own ++ others c more j)
  split_at c more j within =
      let b = bucket_at c j in
      let rest = pairs_among (set c j empty_bucket) in
      let own = live_pairs b.own in
      let chain = live_pairs (flattened b.chain) in
      let all : IsPermutation (entries_in b) (entries_in b ++ []) = rw append-nil (IsPermutation-refl (entries_in b)) in
      let out : IsPermutation (entries_among c) (entries_in b ++ entries_among (set c j empty_bucket)) = exchanged [] (entries_in b) c j
      empty_bucket within all in
      let pairs : IsPermutation (pairs_among c) (map (λ (e : (K × V) × ℕ). e.0) (entries_in b ++ entries_among (set c j empty_bucket))) =
      IsPermutation-map (λ (e : (K × V) × ℕ). e.0) _ _ out in
      let parts : map (λ (e : (K × V) × ℕ). e.0) (entries_in b ++ entries_among (set c j empty_bucket)) ≡ (own ++ chain) ++ rest =
      map-append (λ (e : (K × V) × ℕ). e.0) (entries_in b) (entries_among (set c j empty_bucket)) ∙ ap (λ (l : List (K × V)). l ++ rest)
      (map-entries_in b ∙ filter_map-append live_pair b.own (flattened b.chain)) in
      let moved : IsPermutation (pairs_among c) ((own ++ chain) ++ rest) = subst (IsPermutation (pairs_among c)) parts pairs in
      let shape : ((own ++ chain) ++ rest) ++ more ≡ own ++ (chain ++ (rest ++ more)) = simp append_assoc in
      subst (IsPermutation (pairs_among c ++ more)) shape (IsPermutation-append_left more _ _ moved)

  -- no other place has a pair with the key of a pair in an own slot
  module _ (eq : K → K → Bool) (laws : IsEquivalence eq) (c : List (BucketView K V)) (more : List (K × V))
      (once : IsDistinct eq (keys (pairs_among c ++ more))) where
    not_own : (j : ℕ) (p : K × V) → (j < length c → Contains (others c more j) p) → has_own_key eq (bucket_at c j) p.0 ≡ false
    not_own j p elsewhere = elim (cases_lt j (length c)) [
      | inr past ↦ rw (get_or_past c j empty_bucket past) refl
      | inl within ↦
          let own = live_pairs (bucket_at c j).own in
          let apart = IsDistinct-IsPermutation eq laws.symm _ _ (IsPermutation-map (λ (r : K × V). r.0) _ _ (split_at c more j within))
          once in
          list_any_none (λ (q : K × V). eq p.0 q.0) own (λ k d below.
          let here : Contains own (get_or own k d) = (k, below, get_or_default own k (get_or own k d) d below) in
          laws.symm p.0 (get_or own k d).0 ∙ parts_apart eq own (others c more j) p (get_or own k d) apart here (elsewhere within))
    ]

    is_own : (j : ℕ) (p : K × V) → Contains (live_pairs (bucket_at c j).own) p → has_own_key eq (bucket_at c j) p.0 ≡ true
    is_own j p has = list_any_at (λ (q : K × V). eq p.0 q.0) (live_pairs (bucket_at c j).own) has.0 p has.1
        (ap (λ (q : K × V). eq p.0 q.0) has.2 ∙ laws.refl p.0)

    elsewhere : (i j : ℕ) (p : K × V) → (i ≡ j → ⊥) → Contains (pairs_in (bucket_at c i)) p → Contains (others c more j) p
    elsewhere i j p apart has =
        let same : bucket_at (set c j empty_bucket) i ≡ bucket_at c i = get_or-set_other c j i empty_bucket empty_bucket apart in
        let still : Contains (pairs_in (bucket_at (set c j empty_bucket) i)) p = rw same has in
        Contains-append_right (live_pairs (flattened (bucket_at c j).chain)) (pairs_among (set c j empty_bucket) ++ more) p
        (Contains-append_left (pairs_among (set c j empty_bucket)) more p (among (set c j empty_bucket) i p still))

    -- the place where a pair landed determines the bucket that has its key in an own slot
    pub landing_tells : (j : ℕ) (p : K × V) (landing : Option ℕ) → HasLanded c p landing
        → is_own_of j landing ≡ has_own_key eq (bucket_at c j) p.0
    landing_tells j p (Some i) has = elim (cases_Bool (i == j)) [
      | inl here ↦ rw here (sym (rw (eqb-true i j here) at (is_own i p has)))
      | inr there ↦ rw there (sym (not_own j p (λ within. elsewhere i j p (eqb-false i j there) (in_own (bucket_at c i) p has))))
    ]
    landing_tells j p None has = sym (not_own j p (λ within. elim (cases_eq has.0 j) [
      | inl same ↦ Contains-append_left (live_pairs (flattened (bucket_at c j).chain)) (pairs_among (set c j empty_bucket) ++ more) p
          (subst (λ (i : ℕ). StandsInChain (bucket_at c i) p) same has.1)
      | inr apart ↦ elsewhere has.0 j p apart (in_chain (bucket_at c has.0) p has.1)
    ]))

  -- a slot that passes a test, among the pairs that pass another
  passed : (own : ℕ → Slot K V) (slot : ℕ) (x : Slot K V) (passes : Bool) (test : K × V → Bool) (slots : List ℕ) (rest : List (Slot K V))
      → own slot ≡ x
      → ((p : K × V) → live_pair x ≡ Some p → passes ≡ test p) → live_pairs (map own slots) ≡ filter test (live_pairs rest)
      → live_pairs (map own (if passes then slot ∷ slots else slots)) ≡ filter test (live_pairs (x ∷ rest))
  passed own slot free true test slots rest is same more = rw is more
  passed own slot free false test slots rest is same more = more
  passed own slot (marked p b) true test slots rest is same more = rw is more
  passed own slot (marked p b) false test slots rest is same more = more
  passed own slot (live p b) true test slots rest is same more = rw (is, ← same p refl) (ap (λ (l : List (K × V)). p ∷ l) more)
  passed own slot (live p b) false test slots rest is same more = rw (← same p refl) more

  passed_all : (own : ℕ → Slot K V) (passes : ℕ → Bool) (test : K × V → Bool) (order : List ℕ)
      → ((slot : ℕ) (p : K × V) → is_listed order slot ≡ true → live_pair (own slot) ≡ Some p → passes slot ≡ test p)
      → live_pairs (map own (filter passes order)) ≡ filter test (live_pairs (map own order))
  passed_all own passes test [] same = refl
  passed_all own passes test (slot ∷ order) same =
      let first = same slot in
      let here = or_left (slot == slot) (is_listed order slot) (eq-eqb slot slot refl) in
      let rest = passed_all own passes test order (λ at p listed. same at p (or_right (at == slot) (is_listed order at) listed)) in
      passed own slot (own slot) (passes slot) test (filter passes order) (map own order) refl (λ p is. first p here is) rest

  -- what is carried, by keys
  pub carries_pairs : (eq : K → K → Bool) → IsEquivalence eq → (s : BucketView K V) (c d : List (BucketView K V)) (more : List (K × V))
      → IsDistinct eq (keys (pairs_among d ++ more)) → CarriesRecency s c d → CarriesPairs eq (listed_pairs s) c d
  carries_pairs eq laws s c d more once carried j =
      let test : K × V → Bool = λ p. has_own_key eq (bucket_at d j) p.0 in
      let tells = λ (slot : ℕ) (p : K × V) (listed : is_listed s.listed slot ≡ true) (here : live_pair (slot_at s.own slot) ≡ Some p).
      landing_tells eq laws d more once j p (carried.landing slot) (carried.landed slot p listed here) in
      carried.order j ∙ ap (λ (those : List (K × V)). listed_pairs (bucket_at c j) ++ those)
      (passed_all (slot_at s.own) (λ slot. is_own_of j (carried.landing slot)) test s.listed tells)

  -- whether it is done or fails, as the call states it
  pub carried_still : {A E : Type 0} (r : Result A E) (eq : K → K → Bool) → IsEquivalence eq → (hash : K → ℕ) (s : BucketView K V)
      (c : List (BucketView K V)) (arrays : ArraysView K V)
      → IsOneMap eq hash arrays → OnOk r (CarriesRecency s c arrays.current) → OnOk r (CarriesPairs eq (listed_pairs s) c arrays.current)
  carried_still (Ok x) eq laws hash s c arrays one carried =
      let d = arrays.current in
      let m = arrays.linked in
      let once : IsDistinct eq (keys (pairs_among d ++ pairs_among m)) =
      subst (λ (l : List (K × V)). IsDistinct eq (keys l)) (map-append (λ (e : (K × V) × ℕ). e.0) (entries_among d) (entries_among m))
      one.distinct in
      carries_pairs eq laws s c d (pairs_among m) once carried
  carried_still (Err e) eq laws hash s c arrays one carried = carried
