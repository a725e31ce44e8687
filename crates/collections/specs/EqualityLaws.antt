-- Two maps are equal exactly if they are equal as functions. This file is here because the impls of `PartialEq` cite it.
use Rattle.std.proofs.Common.{◌≡◌, ◌&&◌, ◌∙◌, ◌⊎◌, inl, inr, Bool, true, false, cond, Option, Some, None, List, [], ◌∷◌, refl, sym, ap}
use Rattle.std.specs.Cmp.{IsEquivalence, IsPartialEquivalence, equiv, first_so, partial_equiv_from_equiv, second_so}
use Rattle.std.specs.HashMap.Eq.{lookup_congr}
use Rattle.std.specs.List.{list_all}
use Rattle.std.specs.Map.{keys_of, lookup}
use Rattle.std.specs.Option.{option_eq}
use Rattle.std.proofs.lemmas.Bool.{and_from, true≢false}
use Rattle.collections.specs.Equality.{agree_at, is_within, map_eq}
use Rattle.collections.specs.Maps.{MapView, get}

-- a test that passes for everything passes for a list
passes_all : {X : Type 0} (test : X → Bool) → ((x : X) → test x ≡ true) → (xs : List X) → list_all test xs ≡ true
passes_all test each [] = refl
passes_all test each (x ∷ xs) = and_from (test x) (list_all test xs) (each x) (passes_all test each xs)

-- a key has no value, or is equal to a key that passes
absent_or_passing : {K V : Type 0} (eq : K → K → Bool) (test : K → Bool) (q : K) (pairs : List (K × V))
    → list_all test (keys_of pairs) ≡ true
    → (lookup (eq q) pairs ≡ None) ⊎ ((k : K) × (eq q k ≡ true) × (test k ≡ true))
absent_or_passing eq test q [] all = inl refl
absent_or_passing {K} {V} eq test q (pair ∷ pairs) all =
    from (eq q pair.0) refl (absent_or_passing eq test q pairs (second_so (test pair.0) (list_all test (keys_of pairs)) all))
  where
    from : (hit : Bool) → eq q pair.0 ≡ hit → (lookup (eq q) pairs ≡ None) ⊎ ((k : K) × (eq q k ≡ true) × (test k ≡ true))
        → (lookup (eq q) (pair ∷ pairs) ≡ None) ⊎ ((k : K) × (eq q k ≡ true) × (test k ≡ true))
    from true is rest = inr (pair.0, is, first_so (test pair.0) (list_all test (keys_of pairs)) all)
    from false is (inl none) = inl (ap (λ b. cond b (Some pair.1) (lookup (eq q) pairs)) is ∙ none)
    from false is (inr found) = inr found

module _ {V : Type 0} (same : V → V → Bool) where
  -- equality of options is symmetric
  option_eq_turned : ((v w : V) → same v w ≡ same w v) → (o p : Option V) → option_eq same o p ≡ option_eq same p o
  option_eq_turned sides None None = refl
  option_eq_turned sides None (Some w) = refl
  option_eq_turned sides (Some v) None = refl
  option_eq_turned sides (Some v) (Some w) = sides v w

  -- and transitive
  option_eq_joined : ((u v w : V) → same u v ≡ true → same v w ≡ true → same u w ≡ true) → (o p q : Option V)
      → option_eq same o p ≡ true → option_eq same p q ≡ true → option_eq same o q ≡ true
  option_eq_joined through None None q one two = two
  option_eq_joined through None (Some v) q one two = absurd (true≢false (sym one))
  option_eq_joined through (Some u) None q one two = absurd (true≢false (sym one))
  option_eq_joined through (Some u) (Some v) None one two = two
  option_eq_joined through (Some u) (Some v) (Some w) one two = through u v w one two

-- a map is equal to itself if each value is
pub map_eq_itself : {K V H : Type 0} (eq : K → K → Bool) (same : V → V → Bool) → ((v : V) → same v v ≡ true)
    → (m : MapView K V H) → map_eq eq same m m ≡ true
map_eq_itself {K} {V} eq same itself m = and_from (is_within eq same m m) (is_within eq same m m) all all
  where
    at : (o : Option V) → option_eq same o o ≡ true
    at None = refl
    at (Some v) = itself v

    all : is_within eq same m m ≡ true
    all = passes_all (agree_at eq same m m) (λ q. at (get eq m q)) (keys_of m.entries)

-- equality is symmetric
pub map_eq_turned : {K V H : Type 0} (eq : K → K → Bool) (same : V → V → Bool) (m n : MapView K V H)
    → map_eq eq same m n ≡ map_eq eq same n m
map_eq_turned eq same m n = turned (is_within eq same m n) (is_within eq same n m)
  where
    turned : (a b : Bool) → (a && b) ≡ (b && a)
    turned true true = refl
    turned true false = refl
    turned false true = refl
    turned false false = refl

module _ {K V : Type 0} (eq : K → K → Bool) (laws : IsEquivalence eq) (same : V → V → Bool) (sides : (v w : V) → same v w ≡ same w v) where
  -- maps that agree at a key agree at each that is equal
  agree_at_equal : {H : Type 0} (m n : MapView K V H) (q k : K) → eq q k ≡ true → agree_at eq same m n q ≡ agree_at eq same m n k
  agree_at_equal m n q k is =
      λ i. option_eq same (lookup_congr eq laws.congr m.entries q k is i) (lookup_congr eq laws.congr n.entries q k is i)

  -- maps that are equal agree at each key
  pub agree_from_eq : {H : Type 0} (m n : MapView K V H) → map_eq eq same m n ≡ true → (q : K) → agree_at eq same m n q ≡ true
  agree_from_eq {H} m n both q = from
      (absent_or_passing eq (agree_at eq same m n) q m.entries (first_so (is_within eq same m n) (is_within eq same n m) both))
      (absent_or_passing eq (agree_at eq same n m) q n.entries (second_so (is_within eq same m n) (is_within eq same n m) both))
    where
      from : (get eq m q ≡ None) ⊎ ((k : K) × (eq q k ≡ true) × (agree_at eq same m n k ≡ true))
          → (get eq n q ≡ None) ⊎ ((k : K) × (eq q k ≡ true) × (agree_at eq same n m k ≡ true)) → agree_at eq same m n q ≡ true
      from (inr found) others = agree_at_equal m n q found.0 found.1 ∙ found.2
      from (inl none) (inl others) = λ i. option_eq same (none i) (others i)
      from (inl none) (inr found) =
          option_eq_turned same sides (get eq m q) (get eq n q) ∙ agree_at_equal n m q found.0 found.1 ∙ found.2

  -- and maps that agree at each key are equal
  pub eq_from_agree : {H : Type 0} (m n : MapView K V H) → ((q : K) → agree_at eq same m n q ≡ true) → map_eq eq same m n ≡ true
  eq_from_agree m n agree = and_from (is_within eq same m n) (is_within eq same n m)
      (passes_all (agree_at eq same m n) agree (keys_of m.entries))
      (passes_all (agree_at eq same n m) (λ q. option_eq_turned same sides (get eq n q) (get eq m q) ∙ agree q) (keys_of n.entries))

  -- equality is transitive
  pub map_eq_joined : {H : Type 0} → ((u v w : V) → same u v ≡ true → same v w ≡ true → same u w ≡ true) → (l m n : MapView K V H)
      → map_eq eq same l m ≡ true → map_eq eq same m n ≡ true → map_eq eq same l n ≡ true
  map_eq_joined through l m n one two = eq_from_agree l n (λ q. option_eq_joined same through (get eq l q) (get eq m q) (get eq n q)
      (agree_from_eq l m one q) (agree_from_eq m n two q))

module _ {K V : Type 0} (eq : K → K → Bool) (laws : IsEquivalence eq) (same : V → V → Bool) where
  -- equality is a partial equivalence if that of values is one
  pub map_eq_per : {H : Type 0} → IsPartialEquivalence same → IsPartialEquivalence (map_eq {H = H} eq same)
  map_eq_per values = record { symm = map_eq_turned eq same; trans = map_eq_joined eq laws same values.symm values.trans }

  -- and an equivalence if that is one
  pub map_eq_equiv : {H : Type 0} → IsEquivalence same → IsEquivalence (map_eq {H = H} eq same)
  map_eq_equiv values = equiv (map_eq_per (partial_equiv_from_equiv values)) (map_eq_itself eq same values.refl)
