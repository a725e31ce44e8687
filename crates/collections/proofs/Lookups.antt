-- Look-ups in a list of pairs whose keys are distinct, and what changes of the list do to them.
use Rattle.std.proofs.Common.{zero, suc, ◌≡◌, inl, inr, Bool, true, false, cond, Option, Some, None, List, [], ◌∷◌, length, refl, sym, ap}
use Rattle.std.proofs.Common.{◌++◌, ◌∙◌, ◌⊎◌, ⊎_elim, arith}
use Rattle.std.specs.Cmp.{IsEquivalence}
use Rattle.std.specs.List.{All, Contains, IsDistinct}
use Rattle.std.specs.List.Sorted.{IsPermutation}
use Rattle.std.specs.Map.{keys_of, lookup}
use Rattle.std.proofs.lemmas.Bool.{cases_Bool}
use Rattle.std.proofs.lemmas.List.Sorted.{All-permutation, Contains-permutation, IsPermutation-append_comm, IsPermutation-map}
use Rattle.std.proofs.lemmas.List.Sorted.{IsPermutation-sym, IsPermutation-trans}
use Rattle.std.proofs.lemmas.Map.{lookup-none}
use Rattle.std.proofs.lemmas.Map.Entries.{lookup_head, lookup_tail, none_past_head, place_from_lookup, lookup_from_place}
use Rattle.std.proofs.lemmas.Map.Keys.{IsDistinct-IsPermutation}
use Rattle.std.proofs.lemmas.Option.{slice_get_within, slice_get_read, get_or_from_slice_get}
use Rattle.bucket_table.specs.Map.LookingUp.{IsAbsent, IsThere}

-- two ways to test for the same key
pub same_test : {K : Type 0} (eq : K → K → Bool) (laws : IsEquivalence eq) (k own q : K) → eq own k ≡ true → eq k q ≡ eq q own
same_test eq laws k own q same = sym (laws.congr own k q same) ∙ laws.symm own q

module _ {K V : Type 0} (eq : K → K → Bool) (laws : IsEquivalence eq) where
  pub distinct_permuted : (xs ys : List (K × V)) → IsPermutation xs ys → IsDistinct eq (keys_of xs) → IsDistinct eq (keys_of ys)
  distinct_permuted xs ys moved distinct =
      IsDistinct-IsPermutation eq laws.symm _ _ (IsPermutation-map (λ (p : K × V). p.0) xs ys moved) distinct

  none_tail : (q : K) (p : K × V) (ps : List (K × V)) → All (λ (o : K × V). eq q o.0 ≡ false) (p ∷ ps)
      → All (λ (o : K × V). eq q o.0 ≡ false) ps
  none_tail q p ps none = λ i d below. none (suc i) d (omega arith)

  -- no key passes: nothing is found
  pub lookup_absent : (q : K) (ps : List (K × V)) → All (λ (o : K × V). eq q o.0 ≡ false) ps
      → lookup (eq q) ps ≡ None
  lookup_absent q [] none = refl
  lookup_absent q (p ∷ ps) none =
      lookup_tail (eq q) p ps (none 0 p (omega arith)) ∙ lookup_absent q ps (none_tail q p ps none)

  none_more : (q : K) (p : K × V) (ps : List (K × V)) → eq q p.0 ≡ false → All (λ (o : K × V). eq q o.0 ≡ false) ps
      → All (λ (o : K × V). eq q o.0 ≡ false) (p ∷ ps)
  none_more q p ps is all zero d below = is
  none_more q p ps is all (suc i) d below = all i d (omega arith)

  -- the other way
  pub absent_from_lookup : (q : K) (ps : List (K × V)) → lookup (eq q) ps ≡ None
      → All (λ (o : K × V). eq q o.0 ≡ false) ps
  absent_from_lookup q [] none = λ i d below. absurd (omega arith)
  absent_from_lookup q (p ∷ ps) none = elim (cases_Bool (eq q p.0)) [
    | inl hit ↦ let found : Some p.1 ≡ None = sym (lookup_head (eq q) p ps hit) ∙ none in absurd cc
    | inr miss ↦ none_more q p ps miss (absent_from_lookup q ps (sym (lookup_tail (eq q) p ps miss) ∙ none))
  ]

  -- equal keys find the same
  pub lookup_same : (q k : K) (ps : List (K × V)) → eq q k ≡ true → lookup (eq q) ps ≡ lookup (eq k) ps
  lookup_same q k [] same = refl
  lookup_same q k (p ∷ ps) same =
      let head = laws.congr q k p.0 same in
      let tail = lookup_same q k ps same in
      ap (λ (b : Bool). cond b (Some p.1) (lookup (eq q) ps)) head ∙ ap (λ (o : Option V). cond (eq k p.0) (Some p.1) o) tail

  -- a pair that is present is found
  pub lookup_there : (q : K) (ps : List (K × V)) (p : K × V) → IsDistinct eq (keys_of ps) → Contains ps p
      → eq q p.0 ≡ true → lookup (eq q) ps ≡ Some p.1
  lookup_there q ps p distinct there same =
      lookup_same q p.0 ps same ∙ lookup_from_place laws ps there.0 p.0 p.1 distinct
      (slice_get_read ps (length ps) there.0 p refl there.1 (sym there.2))

  -- what is found is present
  pub there_from_lookup : (q : K) (ps : List (K × V)) (v : V) → lookup (eq q) ps ≡ Some v
      → (k : K) × Contains ps (k, v) × (eq q k ≡ true)
  there_from_lookup q ps v found =
      let place = place_from_lookup (eq q) ps v found in
      let pair : K × V = (place.1, v) in
      (place.1, (place.0, slice_get_within ps place.0 pair place.2, get_or_from_slice_get ps place.0 pair pair place.2), place.3)

  -- another order finds the same
  pub lookup_permuted : (q : K) (xs ys : List (K × V)) → IsDistinct eq (keys_of xs) → IsPermutation xs ys
      → lookup (eq q) ys ≡ lookup (eq q) xs
  lookup_permuted q xs ys distinct moved = from (lookup (eq q) xs) refl
    where
      from : (o : Option V) → lookup (eq q) xs ≡ o → lookup (eq q) ys ≡ lookup (eq q) xs
      from None e =
          lookup_absent q ys (All-permutation (λ (o : K × V). eq q o.0 ≡ false) xs ys moved (absent_from_lookup q xs e)) ∙ sym e
      from (Some v) e =
          let found = there_from_lookup q xs v e in
          lookup_there q ys (found.0, v) (distinct_permuted xs ys moved distinct)
          (Contains-permutation xs ys (found.0, v) moved found.1) found.2 ∙ sym e

  -- as a table states it
  pub get_absent : (k : K) (ps : List (K × V)) → IsAbsent (λ own. eq own k) ps → lookup (eq k) ps ≡ None
  get_absent k ps none = lookup_absent k ps (λ i d below. laws.symm k _ ∙ none i d below)

  pub get_there : (k : K) (ps : List (K × V)) (p : K × V) → IsDistinct eq (keys_of ps) → IsThere (λ own. eq own k) ps p
      → lookup (eq k) ps ≡ Some p.1
  get_there k ps p distinct there = lookup_there k ps p distinct there.0 (laws.symm k p.0 ∙ there.1)

  -- one more pair
  pub lookup_added : (q : K) (p : K × V) (xs ys : List (K × V)) → IsDistinct eq (keys_of ys)
      → IsPermutation (p ∷ xs) ys → lookup (eq q) ys ≡ cond (eq p.0 q) (Some p.1) (lookup (eq q) xs)
  lookup_added q p xs ys distinct moved =
      lookup_permuted q (p ∷ xs) ys (distinct_permuted ys (p ∷ xs) (IsPermutation-sym (p ∷ xs) ys moved) distinct) moved
      ∙ ap (λ (b : Bool). cond b (Some p.1) (lookup (eq q) xs)) (laws.symm q p.0)

  -- one pair less
  pub lookup_taken : (k q : K) (p : K × V) (xs ys : List (K × V)) → IsDistinct eq (keys_of xs)
      → IsPermutation xs (p ∷ ys) → eq p.0 k ≡ true → lookup (eq q) ys ≡ cond (eq k q) None (lookup (eq q) xs)
  lookup_taken k q p xs ys distinct moved same = elim (cases_Bool (eq k q)) [
    | inl hit ↦
        let own : eq q p.0 ≡ true = sym (same_test eq laws k p.0 q same) ∙ hit in
        let none : lookup (eq q) ys ≡ None = lookup-none (eq q) ys
        (none_past_head laws q p ys (distinct_permuted xs (p ∷ ys) moved distinct) own) in
        none ∙ ap (λ (b : Bool). cond b None (lookup (eq q) xs)) (sym hit)
    | inr miss ↦
        let own : eq q p.0 ≡ false = sym (same_test eq laws k p.0 q same) ∙ miss in
        sym (lookup_tail (eq q) p ys own) ∙ lookup_permuted q xs (p ∷ ys) distinct moved
        ∙ ap (λ (b : Bool). cond b None (lookup (eq q) xs)) (sym miss)
  ]

  pub distinct_with : (k : K) (v w : V) (ps : List (K × V)) → IsDistinct eq (keys_of ((k, v) ∷ ps)) → IsDistinct eq (keys_of ((k, w) ∷ ps))
  distinct_with k v w ps distinct = distinct

  -- a value changes
  pub lookup_changed : (k q : K) (p : K × V) (v : V) (rest xs ys : List (K × V)) → IsDistinct eq (keys_of xs)
      → IsPermutation xs (p ∷ rest) → IsPermutation ((p.0, v) ∷ rest) ys → eq p.0 k ≡ true
      → lookup (eq q) ys ≡ cond (eq k q) (Some v) (lookup (eq q) xs)
  lookup_changed k q p v rest xs ys distinct before after same =
      let first = distinct_permuted xs (p ∷ rest) before distinct in
      let found = lookup_permuted q ((p.0, v) ∷ rest) ys (distinct_with p.0 p.1 v rest first) after in
      let was = lookup_permuted q xs (p ∷ rest) distinct before in
      elim (cases_Bool (eq k q)) [
        | inl hit ↦
            let own : eq q p.0 ≡ true = sym (same_test eq laws k p.0 q same) ∙ hit in
            found ∙ lookup_head (eq q) (p.0, v) rest own ∙ ap (λ (b : Bool). cond b (Some v) (lookup (eq q) xs)) (sym hit)
        | inr miss ↦
            let own : eq q p.0 ≡ false = sym (same_test eq laws k p.0 q same) ∙ miss in
            found ∙ lookup_tail (eq q) (p.0, v) rest own ∙ sym (lookup_tail (eq q) p rest own) ∙ was
            ∙ ap (λ (b : Bool). cond b (Some v) (lookup (eq q) xs)) (sym miss)
      ]

module _ {K V : Type 0} (test : K → Bool) where
  -- no key passes: nothing is found
  pub form_absent : (ps : List (K × V)) → All (λ (o : K × V). test o.0 ≡ false) ps → lookup test ps ≡ None
  form_absent [] none = refl
  form_absent (p ∷ ps) none =
      lookup_tail test p ps (none 0 p (omega arith)) ∙ form_absent ps (λ i d below. none (suc i) d (omega arith))

  one_more : (p : K × V) (ps : List (K × V)) → test p.0 ≡ false → All (λ (o : K × V). test o.0 ≡ false) ps
      → All (λ (o : K × V). test o.0 ≡ false) (p ∷ ps)
  one_more p ps is all zero d below = is
  one_more p ps is all (suc i) d below = all i d (omega arith)

  -- the other way
  pub none_from_lookup : (ps : List (K × V)) → lookup test ps ≡ None → All (λ (o : K × V). test o.0 ≡ false) ps
  none_from_lookup [] none = λ i d below. absurd (omega arith)
  none_from_lookup (p ∷ ps) none = elim (cases_Bool (test p.0)) [
    | inl hit ↦ let found : Some p.1 ≡ None = sym (lookup_head test p ps hit) ∙ none in absurd cc
    | inr miss ↦ one_more p ps miss (none_from_lookup ps (sym (lookup_tail test p ps miss) ∙ none))
  ]

-- a test passes the keys equal to each key that it passes, and no other
abbrev pub IsForm : {K : Type 0} → (K → K → Bool) → (K → Bool) → Type 0
IsForm {K} eq test = (key other : K) → test key ≡ true → test other ≡ eq key other

module _ {K V : Type 0} (eq : K → K → Bool) (laws : IsEquivalence eq) (test : K → Bool) (alike : IsForm eq test) where
  -- such a test finds the pair of a key that it passes
  pub form_there : (ps : List (K × V)) (p : K × V) → IsDistinct eq (keys_of ps) → Contains ps p → test p.0 ≡ true
      → lookup test ps ≡ Some p.1
  form_there ps p distinct there passes =
      (λ i. lookup (λ (other : K). alike p.0 other passes i) ps) ∙ lookup_there eq laws p.0 ps p distinct there (laws.refl p.0)

  -- such a test finds what a key that it passes finds
  pub form_of_key : (key : K) (ps : List (K × V)) → test key ≡ true → lookup test ps ≡ lookup (eq key) ps
  form_of_key key ps passes = λ i. lookup (λ (other : K). alike key other passes i) ps

  -- another order finds the same
  pub form_permuted : (xs ys : List (K × V)) → IsDistinct eq (keys_of xs) → IsPermutation xs ys → lookup test ys ≡ lookup test xs
  form_permuted xs ys distinct moved = from (lookup test xs) refl
    where
      from : (o : Option V) → lookup test xs ≡ o → lookup test ys ≡ lookup test xs
      from None e = form_absent test ys (All-permutation (λ (o : K × V). test o.0 ≡ false) xs ys moved (none_from_lookup test xs e)) ∙ sym e
      from (Some v) e =
          let place = place_from_lookup test xs v e in
          let pair : K × V = (place.1, v) in
          let there : Contains xs pair =
          (place.0, slice_get_within xs place.0 pair place.2, get_or_from_slice_get xs place.0 pair pair place.2) in
          form_there ys pair (distinct_permuted eq laws xs ys moved distinct) (Contains-permutation xs ys pair moved there) place.3 ∙ sym e

  -- the pair that it passes is removed
  pub form_taken : (q : K) (p : K × V) (xs ys : List (K × V)) → IsDistinct eq (keys_of xs) → IsPermutation xs (p ∷ ys)
      → test p.0 ≡ true → lookup (eq q) ys ≡ cond (test q) None (lookup (eq q) xs)
  form_taken q p xs ys distinct moved passes = lookup_taken eq laws p.0 q p xs ys distinct moved (laws.refl p.0)
      ∙ ap (λ (b : Bool). cond b None (lookup (eq q) xs)) (sym (alike p.0 q passes))

  -- its value is another one
  pub form_changed : (q : K) (p : K × V) (v : V) (rest xs ys : List (K × V)) → IsDistinct eq (keys_of xs) → IsPermutation xs (p ∷ rest)
      → IsPermutation ((p.0, v) ∷ rest) ys → test p.0 ≡ true → lookup (eq q) ys ≡ cond (test q) (Some v) (lookup (eq q) xs)
  form_changed q p v rest xs ys distinct before after passes =
      lookup_changed eq laws p.0 q p v rest xs ys distinct before after (laws.refl p.0)
      ∙ ap (λ (b : Bool). cond b (Some v) (lookup (eq q) xs)) (sym (alike p.0 q passes))

-- a look-up finds the same in a longer list, or it found nothing
found_first : {K V : Type 0} (test : K → Bool) (xs ys : List (K × V)) → (lookup test xs ≡ lookup test (xs ++ ys)) ⊎ (lookup test xs ≡ None)
found_first test [] ys = inr refl
found_first test (p ∷ xs) ys = elim (cases_Bool (test p.0)) [
  | inl hit ↦ inl (rw hit refl)
  | inr miss ↦ ⊎_elim (λ same. inl (rw miss same)) (λ none. inr (rw miss none)) (found_first test xs ys)
]

-- if pairs are removed, each key has the value that it had, or none
pub kept_or_gone : {K V : Type 0} (eq : K → K → Bool) (laws : IsEquivalence eq) (old gone new : List (K × V)) → IsDistinct eq (keys_of old)
    → IsPermutation old (gone ++ new) → (key : K) → (lookup (eq key) new ≡ lookup (eq key) old) ⊎ (lookup (eq key) new ≡ None)
kept_or_gone eq laws old gone new distinct parts key =
    let turned = IsPermutation-trans old (gone ++ new) (new ++ gone) parts (IsPermutation-append_comm gone new) in
    rw (← lookup_permuted eq laws key old (new ++ gone) distinct turned) (found_first (eq key) new gone)
