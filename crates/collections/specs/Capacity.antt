-- How many slots a map needs for some pairs.
use Rattle.std.specs.Prelude.{ℕ, ◌≡◌, ◌+◌, ◌<◌, ◌≤◌, ◌^◌, ◌⊎◌, Bool, Result, Ok, IsErr, OnOk, max, min}
use Rattle.std.specs.declared.alloc.AllocError.{AllocError}
use Rattle.bucket_slots.specs.Sizing.{IsPowerIn, IsTooFull}
use Rattle.collections.specs.Changes.{Stays}
use Rattle.collections.specs.Maps.{IsEmpty, MapView, map_len}

-- an array may have that many slots, and the pairs fill at most 13 of each 16
pub record HoldsAll (pairs slots : ℕ) : Type 0 where
  pub power : IsPowerIn 64 (2 ^ 62) slots
  pub enough : IsTooFull slots pairs → ⊥

-- the least of these numbers of slots
pub record IsSlotsFor (pairs slots : ℕ) : Type 0 where
  pub holds : HoldsAll pairs slots
  pub least : (other : ℕ) → HoldsAll pairs other → slots ≤ other

-- the pairs are too many for every array
abbrev pub AreTooMany : ℕ → Type 0
AreTooMany pairs = (slots : ℕ) → HoldsAll pairs slots → ⊥

-- the minimum of a map whose first array is to have room for some pairs: 64 for none, and 2^63 if they are too many
pub record IsMinimumFor (pairs minimum : ℕ) : Type 0 where
  pub none : pairs ≡ 0 → minimum ≡ 64
  pub some : 0 < pairs → (slots : ℕ) → IsSlotsFor pairs slots → minimum ≡ slots
  pub beyond : AreTooMany pairs → minimum ≡ 2 ^ 63

module _ {K V H : Type 0} where
  -- there is no old array, and there is room for a number of additional pairs
  pub record HasRoomFor (more : ℕ) (map : MapView K V H) : Type 0 where
    pub alone : map.old_slots ≡ 0
    pub enough : IsTooFull map.slots (map_len map + more) → ⊥

  -- there is no old array, and there are the fewest slots for some pairs, or as many as before
  pub record TakesSlots (pairs : ℕ) (old new : MapView K V H) : Type 0 where
    pub alone : new.old_slots ≡ 0
    pub least : ℕ
    pub least_is : IsSlotsFor pairs least
    pub slots_are : new.slots ≡ max least old.slots

  -- there is no old array, and there are as few slots as the pairs need, none for no pairs
  pub record IsFitted (map : MapView K V H) : Type 0 where
    pub alone : map.old_slots ≡ 0
    pub none : IsEmpty map → map.slots ≡ 0
    pub some : (IsEmpty map → ⊥) → IsSlotsFor (map_len map) map.slots

  -- room is made for a number of additional pairs, by the fewest slots for them all, or by the present ones, unless allocation fails, and
  -- no slot is freed; if there is room already, or if the pairs are too many, nothing changes
  pub record MakesRoom {E : Type 0} (eq : K → K → Bool) (more : ℕ) (old : MapView K V H) (answer : Result (Unit {0}) E)
      (new : MapView K V H) : Type 0 where
    pub stays : Stays eq old new
    pub room : OnOk answer (HasRoomFor more new)
    pub slots : OnOk answer ((HasRoomFor more old → ⊥) → TakesSlots (map_len old + more) old new)
    pub no_fewer : old.slots ≤ new.slots
    pub ready : HasRoomFor more old → (answer ≡ Ok tt) × (new ≡ old)
    pub too_many : AreTooMany (map_len old + more) → IsErr answer × (new ≡ old)

  -- room is made for some additional pairs, at most this many, unless allocation fails; or nothing changes
  pub record GainsRoom (eq : K → K → Bool) (most : ℕ) (old new : MapView K V H) : Type 0 where
    pub stays : Stays eq old new
    pub no_fewer : old.slots ≤ new.slots
    pub more : ℕ
    pub within : more ≤ most
    pub made : (new ≡ old) ⊎ ((answer : Result (Unit {0}) AllocError) × MakesRoom eq more old answer new)

  -- the minimum is 0, and as few slots are left as the pairs need, unless allocation fails; if there are as few already, nothing else
  -- changes, and the call succeeds for a map without pairs
  pub record ShrinksToFit {E : Type 0} (eq : K → K → Bool) (old : MapView K V H) (answer : Result (Unit {0}) E)
      (new : MapView K V H) : Type 0 where
    pub stays : Stays eq (record old { minimum = 0 }) new
    pub fitted : OnOk answer (IsFitted new)
    pub ready : IsFitted old → (answer ≡ Ok tt) × (new ≡ record old { minimum = 0 })
    pub none : IsEmpty old → answer ≡ Ok tt

  -- the minimum is 0, and there are as few slots as a number of pairs needs, or as before if those were fewer, unless allocation fails; if
  -- the map has at least that many pairs, its own number of pairs is used
  pub record ShrinksTo {E : Type 0} (eq : K → K → Bool) (pairs : ℕ) (old : MapView K V H) (answer : Result (Unit {0}) E)
      (new : MapView K V H) : Type 0 where
    pub stays : Stays eq (record old { minimum = 0 }) new
    pub fitted : pairs ≤ map_len old → ShrinksToFit eq old answer new
    pub slots : map_len old < pairs → OnOk answer ((least : ℕ) → IsSlotsFor pairs least → new.slots ≡ min least old.slots)
    pub too_many : AreTooMany pairs → map_len old < pairs → (answer ≡ Ok tt) × (new ≡ record old { minimum = 0 })
