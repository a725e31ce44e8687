-- Many pairs or keys inserted in turn, as an iterator yields them.
use Rattle.std.specs.Prelude.{ℕ, ◌≡◌, ◌||◌, ◌^◌, Bool, List, [], Option, Some, None, Result, Ok, Err, MatchBool, map}
use Rattle.std.specs.Borrow.{Bor}
use Rattle.std.specs.Iterator.{YieldsThen}
use Rattle.std.specs.List.{FoldsTo, list_any}
use Rattle.std.specs.Map.{update_all}
use Rattle.std.specs.declared.alloc.AllocFailed.{AllocFailed}
use Rattle.collections.specs.Capacity.{GainsRoom}
use Rattle.collections.specs.Changes.{Adds, Keeps, Stays}
use Rattle.collections.specs.Crowding.{LacksRoom}
use Rattle.collections.specs.Loans.{Puts}
use Rattle.collections.specs.Maps.{MapView, contains, get}
use Rattle.collections.specs.Slots.{GrowsSlots}

-- a new map: it has no pair and no slot
abbrev pub empty_map : {K V H : Type 0} → H → MapView K V H
empty_map hasher = record { entries = []; hasher = hasher; minimum = 64; maximum = 2 ^ 63; slots = 0; old_slots = 0; bucket_lens = [] }

-- borrowed pairs, by value
abbrev pub copied_pairs : {K V : Type 0} → List (Bor K × Bor V) → List (K × V)
copied_pairs pairs = map (λ pair. (pair.0.now, pair.1.now)) pairs

module _ {K V H : Type 0} (eq : K → K → Bool) where
  -- each pair is upserted in turn; so each key has the last of its new values, or the value that it had
  pub record PutsAll (old : MapView K V H) (pairs : List (K × V)) (new : MapView K V H) : Type 0 where
    pub between : MapView K V H
    pub in_turn : FoldsTo (λ before pair after. Puts eq before pair.0 pair.1 after) old pairs between
    pub stays : Stays eq between new
    pub gets : (key : K) → get eq new key ≡ update_all eq (get eq old) pairs key
    pub kept : Keeps eq old new

  -- each is upserted, from one map to the next
  abbrev pub UpsertsEach : (H → K → ℕ) → MapView K V H → List (K × V) → MapView K V H → Type 0
  UpsertsEach hash_of old pairs new =
      FoldsTo (λ before pair after. Puts eq before pair.0 pair.1 after × GrowsSlots hash_of pair.0 before after) old pairs new

  -- room is reserved for at most so many pairs, if it can be allocated, and all pairs of an iterator are upserted; or if allocation fails,
  -- those before a pair that an upsert then returns, since allocation may fail in the map of that moment, and the iterator still has what
  -- follows it
  abbrev pub PutsFrom : {S : Type 0} → (H → K → ℕ) → (S → Option (K × V) → S → Type 0) → ℕ → S → MapView K V H
      → Result (Unit {0}) (AllocFailed (K × V)) → MapView K V H → S → Type 0
  PutsFrom hash_of steps most first old (Ok done) new last = (pairs : List (K × V)) × YieldsThen steps first pairs None last
      × PutsAll old pairs new
      × ((roomy : MapView K V H) × GainsRoom eq most old roomy × UpsertsEach hash_of roomy pairs new)
  PutsFrom hash_of steps most first old (Err back) new last = (pairs : List (K × V)) × YieldsThen steps first pairs (Some back.value) last
      × PutsAll old pairs new × (get eq new back.value.0 ≡ None)
      × ((roomy : MapView K V H) × (between : MapView K V H) × GainsRoom eq most old roomy × UpsertsEach hash_of roomy pairs between
      × Stays eq between new × LacksRoom hash_of back.value.0 between)

module _ {K H : Type 0} (eq : K → K → Bool) where
  -- a key is inserted if it is absent; else the present one stays
  abbrev pub PutsKey : MapView K (Unit {0}) H → K → MapView K (Unit {0}) H → Type 0
  PutsKey old key new = MatchBool (contains eq old key) (Stays eq old new) (Adds eq old key tt new)

  -- each key is inserted in turn, so a set contains them and its earlier keys
  pub record PutsKeys (old : MapView K (Unit {0}) H) (keys : List K) (new : MapView K (Unit {0}) H) : Type 0 where
    pub between : MapView K (Unit {0}) H
    pub in_turn : FoldsTo PutsKey old keys between
    pub stays : Stays eq between new
    pub has : (key : K) → contains eq new key ≡ (contains eq old key || list_any (eq key) keys)
    pub kept : Keeps eq old new

  -- each is inserted, from one set to the next
  abbrev pub InsertsEach : (H → K → ℕ) → MapView K (Unit {0}) H → List K → MapView K (Unit {0}) H → Type 0
  InsertsEach hash_of old keys new = FoldsTo (λ before key after. PutsKey before key after × GrowsSlots hash_of key before after)
      old keys new

  -- the keys of an iterator are inserted, as pairs are inserted into a map
  abbrev pub PutsKeysFrom : {S : Type 0} → (H → K → ℕ) → (S → Option K → S → Type 0) → ℕ → S → MapView K (Unit {0}) H
      → Result (Unit {0}) (AllocFailed K) → MapView K (Unit {0}) H → S → Type 0
  PutsKeysFrom hash_of steps most first old (Ok done) new last = (keys : List K) × YieldsThen steps first keys None last
      × PutsKeys old keys new
      × ((roomy : MapView K (Unit {0}) H) × GainsRoom eq most old roomy × InsertsEach hash_of roomy keys new)
  PutsKeysFrom hash_of steps most first old (Err back) new last = (keys : List K) × YieldsThen steps first keys (Some back.value) last
      × PutsKeys old keys new × (get eq new back.value ≡ None)
      × ((roomy : MapView K (Unit {0}) H) × (between : MapView K (Unit {0}) H) × GainsRoom eq most old roomy
      × InsertsEach hash_of roomy keys between
      × Stays eq between new × LacksRoom hash_of back.value between)
