-- The contents of a copy of a map whose keys and values are clones.
use Rattle.std.specs.Prelude.{◌≡◌, ◌^◌, Bool, true, map, min, List, None, Option}
use Rattle.std.specs.Borrow.{Bor}
use Rattle.std.specs.Iterator.{Drains}
use Rattle.std.specs.List.{AllZip}
use Rattle.std.specs.List.Sorted.{IsPermutation}
use Rattle.std.specs.Option.{IsSomeAnd, MatchOption}
use Rattle.collections.specs.Collecting.{PutsKey, PutsKeys, empty_map}
use Rattle.collections.specs.Loans.{Puts}
use Rattle.collections.specs.Maps.{IsUnique, MapView, contains, get, map_len}

-- a pair of clones, whose key is equal
abbrev pub IsClonedPair : {K V : Type 0} → (K → K → Bool) → (K → K → Type 0) → (V → V → Type 0) → K × V → K × V → Type 0
IsClonedPair eq IsKey IsValue own pair = (IsKey own.0 pair.0 × (eq own.0 pair.0 ≡ true)) × IsValue own.1 pair.1

-- clones of a pair are inserted into a map
pub record PutsClone {K V H : Type 0} (eq : K → K → Bool) (IsKey : K → K → Type 0) (IsValue : V → V → Type 0) (old : MapView K V H)
    (own : K × V) (new : MapView K V H) : Type 0 where
  pub pair : K × V
  pub clone : IsClonedPair eq IsKey IsValue own pair
  pub puts : Puts eq old pair.0 pair.1 new

module _ {K V H : Type 0} (eq : K → K → Bool) (IsKey : K → K → Type 0) (IsValue : V → V → Type 0) (IsHasher : H → H → Type 0) where
  -- a map has clones of the pairs of another, and no other pair, so each key has a clone of its value in the other map; its hasher is a
  -- clone, and its maximum is 2^63, which its minimum doesn't exceed
  pub record IsClone (own copy : MapView K V H) : Type 0 where
    pub pairs : List (K × V)
    pub clones : AllZip (IsClonedPair eq IsKey IsValue) own.entries pairs
    pub entries : IsPermutation pairs copy.entries
    pub len : map_len copy ≡ map_len own
    pub gets : (key : K) → MatchOption (get eq own key) (get eq copy key ≡ None) (λ value. IsSomeAnd (get eq copy key) (IsValue value))
    pub unique : IsUnique eq copy
    pub hasher : IsHasher own.hasher copy.hasher
    pub minimum : copy.minimum ≡ min own.minimum (2 ^ 63)
    pub maximum : copy.maximum ≡ 2 ^ 63

-- a clone of a key, which is equal
abbrev pub IsClonedKey : {K : Type 0} → (K → K → Bool) → (K → K → Type 0) → K → K → Type 0
IsClonedKey eq IsKey key clone = IsKey key clone × (eq key clone ≡ true)

module _ {K H : Type 0} (eq : K → K → Bool) (IsKey : K → K → Type 0) where
  -- a clone of a key is inserted into a set
  pub record PutsKeyClone (old : MapView K (Unit {0}) H) (key : K) (new : MapView K (Unit {0}) H) : Type 0 where
    pub clone : K
    pub is_clone : IsClonedKey eq IsKey key clone
    pub puts : PutsKey eq old clone new

  -- clones of some keys are inserted into a set in turn
  pub record PutsClones (old : MapView K (Unit {0}) H) (keys : List K) (new : MapView K (Unit {0}) H) : Type 0 where
    pub clones : List K
    pub one_each : AllZip (IsClonedKey eq IsKey) keys clones
    pub puts : PutsKeys eq old clones new

  -- clones of the keys that an iterator borrows are inserted in turn, all of them
  abbrev pub PutsClonesFrom : {S : Type 0} → (S → Option (Bor K) → S → Type 0) → S → MapView K (Unit {0}) H
      → MapView K (Unit {0}) H → Type 0
  PutsClonesFrom steps first old new =
      (lent : List (Bor K)) × Drains steps first lent × PutsClones old (map (λ key. key.now) lent) new

module _ {K H : Type 0} (eq : K → K → Bool) (IsKey : K → K → Type 0) (IsHasher : H → H → Type 0) where
  -- a set that was made empty contains clones of some keys of two others: those that pass the test; its hasher is a clone of the first
  -- one's
  pub record JoinsClones (own other : MapView K (Unit {0}) H) (keys : List K) (joins : Bool → Bool → Bool)
      (made : MapView K (Unit {0}) H) : Type 0 where
    pub puts : PutsClones {H = H} eq IsKey (empty_map made.hasher) keys made
    pub has : (key : K) → contains eq made key ≡ joins (contains eq own key) (contains eq other key)
    pub hasher : IsHasher own.hasher made.hasher
