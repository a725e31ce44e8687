-- The LRU order that moves with pairs: what the current buckets list after the pairs of old ones have moved.
use Rattle.std.specs.Prelude.{ℕ, ◌≡◌, ◌≢◌, ◌++◌, ◌⊎◌, Bool, List, [], ◌∷◌, flat_map, map}
use Rattle.std.specs.Cmp.{IsEquivalence}
use Rattle.std.specs.List.{All, Contains, IsDistinct, filter, list_any}
use Rattle.bucket_slots.specs.ArrayView.{bucket_at}
use Rattle.bucket_slots.specs.BucketView.{BucketView, flattened, listed_pairs, pairs_in}
use Rattle.bucket_slots.specs.Slots.{live_pairs}
use Rattle.bucket_table.specs.Rehash.Relocation.{KeepsPlaces}
use Rattle.bucket_table.specs.Views.ArraysView.{ArraysView, pairs_of}

-- whether a pair with an equal key is in an own slot of a bucket
abbrev pub has_own_key : {K V : Type 0} → (K → K → Bool) → BucketView K V → K → Bool
has_own_key eq bucket key = list_any (λ pair. eq key pair.0) (live_pairs bucket.own)

-- the listed pairs of the buckets with these indices, one bucket after another
abbrev pub listed_among : {K V : Type 0} → List (BucketView K V) → List ℕ → List (K × V)
listed_among buckets indices = flat_map (λ i. listed_pairs (bucket_at buckets i)) indices

-- each bucket lists its own pairs, followed by those of some listed pairs that are now in its own slots, in their order
abbrev pub CarriesPairs : {K V : Type 0} → (K → K → Bool) → List (K × V) → List (BucketView K V) → List (BucketView K V) → Type 0
CarriesPairs eq listed current new_current = (j : ℕ) → listed_pairs (bucket_at new_current j)
    ≡ listed_pairs (bucket_at current j) ++ filter (λ pair. has_own_key eq (bucket_at new_current j) pair.0) listed

-- the pairs of a bucket's chain
abbrev pub chained_pairs : {K V : Type 0} → BucketView K V → List (K × V)
chained_pairs bucket = live_pairs (flattened bucket.chain)

-- a pair moved before another one: it is in an own slot, or the other one in a chain, or they are in different buckets
abbrev pub WentFirst : {K V : Type 0} → List (BucketView K V) → K × V → K × V → Type 0
WentFirst buckets pair other =
    ((j : ℕ) × Contains (live_pairs (bucket_at buckets j).own) pair)
    ⊎ (((j : ℕ) × Contains (chained_pairs (bucket_at buckets j)) other)
    ⊎ ((i j : ℕ) × (i ≢ j) × Contains (pairs_in (bucket_at buckets i)) pair × Contains (pairs_in (bucket_at buckets j)) other))

-- each pair of a list moved before those after it
abbrev pub WentInOrder : {K V : Type 0} → List (BucketView K V) → List (K × V) → Type 0
WentInOrder buckets [] = Unit {0}
WentInOrder buckets (pair ∷ rest) = All (λ other. WentFirst buckets pair other) rest × WentInOrder buckets rest

-- old buckets have moved, one after another, with their LRU order: each other old bucket has the same pairs and list; no pair of the
-- current array leaves its place; and each listed pair of those that moved is now in it, listed if it has an own slot. The pairs of a
-- bucket move in slot order, so the first of them get the own slots of a home
pub record CarriesOrder {K V : Type 0} (old new : ArraysView K V) : Type 0 where
  pub moved : List ℕ
  pub left : (i : ℕ) → (Contains moved i × (listed_pairs (bucket_at new.linked i) ≡ []))
      ⊎ ((listed_pairs (bucket_at new.linked i) ≡ listed_pairs (bucket_at old.linked i))
      × (pairs_in (bucket_at new.linked i) ≡ pairs_in (bucket_at old.linked i))
      × (chained_pairs (bucket_at new.linked i) ≡ chained_pairs (bucket_at old.linked i)))
  pub stay : KeepsPlaces old.current new.current
  pub arrived : All (λ pair. (j : ℕ) × Contains (pairs_in (bucket_at new.current j)) pair) (listed_among old.linked moved)
  pub carried : (eq : K → K → Bool) → IsEquivalence eq → IsDistinct eq (map (λ pair. pair.0) (pairs_of old))
      → CarriesPairs eq (listed_among old.linked moved) old.current new.current
  pub in_order : (i : ℕ) → Contains moved i → WentInOrder new.current (pairs_in (bucket_at old.linked i))
