-- What a map is when a mutable borrow of one of its values ends.
use Rattle.std.specs.Prelude.{◌≡◌, ◌⊎◌, Bool, true, Option, Some, None, Result, IfNone, IfSome, MatchOption}
use Rattle.std.specs.Borrow.{Fml, Lends, LendsSo, LendsSoOk, MutBor, RattleType}
use Rattle.std.specs.declared.cmp.PartialEq as equals
use Rattle.bucket_table.specs.declared.key_hash.KeyHash as key_hash
use Rattle.collections.specs.Maps.{MapView, get, get_by, map_with_value}
use Rattle.collections.specs.Changes.{Adds, Replaces, Stays, Updates}
use Rattle.collections.specs.Crowding.{LacksRoom}
use Rattle.collections.specs.Slots.{GrowsSlots, KeepsSlots}
use Rattle.collections.specs.contracts.hash_map.HashMap.{the_row}

-- the value is under the key: one more pair, or with the key that is present
abbrev pub Puts : {K V H : Type 0} → (K → K → Bool) → MapView K V H → K → V → MapView K V H → Type 0
Puts {K} {V} {H} eq old key value new =
    MatchOption (get eq old key) (Adds eq old key value new) (λ before. (own : K) × Replaces eq old (eq key) (own, before) value new)

module _ {K V H : Type 0} (eq : K → K → Bool) (old : MapView K V H) (matches : K → Bool) (value : V) (new : MapView K V H) where
  -- one more pair, whose key matches
  pub record AddsMatched : Type 0 where
    pub key : K
    pub same : matches key ≡ true
    pub adds : Adds eq old key value new
    pub updates : Updates eq old matches (Some value) new

  -- the value is under a matching key: one more pair, or with the key that is present
  pub record PutsMatched : Type 0 where
    pub cases : MatchOption (get_by matches old) AddsMatched (λ before. (own : K) × Replaces eq old matches (own, before) value new)
    pub updates : Updates eq old matches (Some value) new

module _ (K V H : RattleType) (equal : equals.Ghosts K.Denot) (hashing : key_hash.Ghosts H.Denot K.Denot)
    (map : MutBor (MapView K.Denot V.Denot H.Denot)) where
  -- the value of the matching key is the last one written through the borrow; if there is none, no key matches and nothing changes; the
  -- slots stay in either case
  abbrev pub LendsValue : (K.Denot → Bool) → Option (MutBor V.Denot) → Fml
  LendsValue matches loan =
      LendsSo (the_row K V H (record {}) equal hashing) V map loan
      (λ new value. IfSome loan (λ lent. (own : K.Denot) × Replaces equal.eq map.now matches (own, lent.now) value new
      × KeepsSlots map.now new))
      (λ new. IfNone loan ((get_by matches map.now ≡ None) × Stays equal.eq map.now new × KeepsSlots map.now new))

  -- the value of the matching key is the last one written through the borrow
  abbrev pub LendsThere : (K.Denot → Bool) → MutBor V.Denot → Fml
  LendsThere matches lent =
      Lends (the_row K V H (record {}) equal hashing) V map lent (map_with_value matches map.now)

  -- one more pair, with the last value written through the borrow; if nothing is borrowed, nothing changes, and allocation may fail; the
  -- slots are those that an insertion leaves
  abbrev pub LendsAdded : {E : Type 0} → K.Denot → Result (MutBor V.Denot) E → Fml
  LendsAdded key loan =
      LendsSoOk (the_row K V H (record {}) equal hashing) V map loan
      (λ new value. Adds equal.eq map.now key value new × GrowsSlots hashing.hash_of key map.now new)
      (λ new. Stays equal.eq map.now new × LacksRoom hashing.hash_of key map.now × GrowsSlots hashing.hash_of key map.now new)

  -- the same for a matching key; if it doesn't match, nothing is borrowed and nothing changes
  abbrev pub LendsMatched : {E : Type 0} → (K.Denot → Bool) → K.Denot → Result (MutBor V.Denot) E → Fml
  LendsMatched matches key loan =
      LendsSoOk (the_row K V H (record {}) equal hashing) V map loan
      (λ new value. (matches key ≡ true) × Adds equal.eq map.now key value new × GrowsSlots hashing.hash_of key map.now new)
      (λ new. Stays equal.eq map.now new × (matches key ≡ true → LacksRoom hashing.hash_of key map.now)
      × GrowsSlots hashing.hash_of key map.now new)

  -- the value under the key is the last one written through the borrow, whether or not the map contained the key; if nothing is borrowed,
  -- nothing changes, and allocation may fail
  abbrev pub LendsPut : {E : Type 0} → K.Denot → Result (MutBor V.Denot) E → Fml
  LendsPut key loan =
      LendsSoOk (the_row K V H (record {}) equal hashing) V map loan
      (λ new value. Puts equal.eq map.now key value new × GrowsSlots hashing.hash_of key map.now new)
      (λ new. Stays equal.eq map.now new × LacksRoom hashing.hash_of key map.now × GrowsSlots hashing.hash_of key map.now new)

  -- the same; if nothing is borrowed, nothing changes, and the cause may be another one than allocation failure
  abbrev pub LendsTried : {E : Type 0} → K.Denot → Result (MutBor V.Denot) E → Fml
  LendsTried key loan =
      LendsSoOk (the_row K V H (record {}) equal hashing) V map loan
      (λ new value. Puts equal.eq map.now key value new × GrowsSlots hashing.hash_of key map.now new)
      (λ new. Stays equal.eq map.now new × GrowsSlots hashing.hash_of key map.now new)

  -- one more pair; if nothing is borrowed, nothing changes, and the cause may be another one than allocation failure
  abbrev pub LendsTriedNew : {E : Type 0} → K.Denot → Result (MutBor V.Denot) E → Fml
  LendsTriedNew key loan =
      LendsSoOk (the_row K V H (record {}) equal hashing) V map loan
      (λ new value. Adds equal.eq map.now key value new × GrowsSlots hashing.hash_of key map.now new)
      (λ new. Stays equal.eq map.now new × GrowsSlots hashing.hash_of key map.now new)

  -- no pair with a matching key is inserted: no such key could be made, or allocation may fail for it
  abbrev pub LacksPair : Type 0 → (K.Denot → Bool) → Type 0
  LacksPair MayLackKey matches = MayLackKey ⊎ ((key : K.Denot) × (matches key ≡ true) × LacksRoom hashing.hash_of key map.now)

  -- the slots stay, or are those that an insertion of a matching key leaves
  abbrev pub GrowsMatched : (K.Denot → Bool) → MapView K.Denot V.Denot H.Denot → Type 0
  GrowsMatched matches new = KeepsSlots map.now new
      ⊎ ((key : K.Denot) × (matches key ≡ true) × GrowsSlots hashing.hash_of key map.now new)

  -- one more pair, whose key matches, with the last value written through the borrow; if nothing is borrowed, nothing changes, and no key
  -- could be made or allocation may fail
  abbrev pub LendsMade : {E : Type 0} → Type 0 → (K.Denot → Bool) → Result (MutBor V.Denot) E → Fml
  LendsMade MayLackKey matches loan =
      LendsSoOk (the_row K V H (record {}) equal hashing) V map loan
      (λ new value. AddsMatched equal.eq map.now matches value new × GrowsMatched matches new)
      (λ new. Stays equal.eq map.now new × LacksPair MayLackKey matches × GrowsMatched matches new)

  -- the value under a matching key is the last one written through the borrow, whether or not the map contained one; if nothing is
  -- borrowed, nothing changes, and no key could be made or allocation may fail
  abbrev pub LendsPutMatched : {E : Type 0} → Type 0 → (K.Denot → Bool) → Result (MutBor V.Denot) E → Fml
  LendsPutMatched MayLackKey matches loan =
      LendsSoOk (the_row K V H (record {}) equal hashing) V map loan
      (λ new value. PutsMatched equal.eq map.now matches value new × GrowsMatched matches new)
      (λ new. Stays equal.eq map.now new × LacksPair MayLackKey matches × GrowsMatched matches new)
