-- What calls do to the slots of a map.
use Rattle.std.specs.Prelude.{ℕ, ◌*◌, ◌≡◌, ◌<◌, ◌/◌, ◌⊎◌, [], Bool, true, false, length, replicate}
use Rattle.bucket_slots.specs.Sizing.{IsLengthFor}
use Rattle.collections.specs.Crowding.{HasAtHome}
use Rattle.collections.specs.Maps.{MapView}

-- the map without its pairs; its slots stay
abbrev pub cleared : {K V H : Type 0} → MapView K V H → MapView K V H
cleared map = record map { entries = []; bucket_lens = replicate (length map.bucket_lens) 0 }

module _ {K V H : Type 0} where
  -- the slots stay, and the old ones stay or are dropped
  pub record KeepsSlots (old new : MapView K V H) : Type 0 where
    pub slots : new.slots ≡ old.slots
    pub old_slots : (new.old_slots ≡ old.old_slots) ⊎ (new.old_slots ≡ 0)

  -- the first slots are those for the minimum
  pub record MakesSlots (old new : MapView K V H) : Type 0 where
    pub none : old.slots ≡ 0
    pub slots : IsLengthFor old.minimum (new.slots / 32)
    pub old_slots : new.old_slots ≡ 0

  -- the slots are now the old ones, and a key's bucket among them was the home of 31 pairs
  pub record ChangesSlots (hash : K → ℕ) (key : K) (old new : MapView K V H) : Type 0 where
    pub crowded : HasAtHome 31 hash key old.slots old.entries
    pub old_slots : new.old_slots ≡ old.slots
    pub slots : 0 < new.slots

  -- the slots were more than the minimum, and fewer than an eighth of them would be live; they are now the old ones, or there are none
  pub record ShrinksSlots (old new : MapView K V H) : Type 0 where
    pub more : old.minimum < old.slots
    pub few : 8 * length new.entries < old.slots
    pub went : (new.old_slots ≡ old.slots) ⊎ ((new.slots ≡ 0) × (new.old_slots ≡ 0))

  -- a removal keeps the slots, or they may shrink if it removed a pair; a caller that needs this definition unfolds it
  unfoldable pub LosesSlots : Bool → MapView K V H → MapView K V H → Type 0
  LosesSlots true old new = KeepsSlots old new ⊎ ShrinksSlots old new
  LosesSlots false old new = KeepsSlots old new

  -- an insertion of a key keeps the slots, or makes the first ones, or the key's bucket is nearly full and they are now the old ones; a
  -- caller that needs this definition unfolds it
  unfoldable pub GrowsSlots : (H → K → ℕ) → K → MapView K V H → MapView K V H → Type 0
  GrowsSlots hash_of key old new = KeepsSlots old new ⊎ (MakesSlots old new ⊎ ChangesSlots (hash_of old.hasher) key old new)
