-- What contracts see of a key's place in a map.
use Rattle.std.specs.Prelude.{◌≡◌, Bool, true, false}
use Rattle.std.specs.Borrow.{MutBor}
use Rattle.std.specs.declared.cmp.PartialEq as equals
use Rattle.bucket_table.specs.declared.key_hash.KeyHash as key_hash
use Rattle.collections.specs.Maps.{MapView}
use Rattle.collections.specs.Changes.{Replaces}
use Rattle.collections.specs.Slots.{KeepsSlots}
use Rattle.collections.specs.declared.hash_map.entry.Entry.{Entry}
use Rattle.collections.specs.declared.hash_map.entry.Entry.TheVariants.{Occupied, Vacant}

module _ {K V H : Type 0} {equal : equals.Ghosts K} {hashing : key_hash.Ghosts H K} where
  -- the requested key
  abbrev pub entry_key : Entry K V H equal hashing → K
  entry_key (Occupied entry) = entry.key
  entry_key (Vacant entry) = entry.key

  -- the reference to the map
  abbrev pub entry_map : Entry K V H equal hashing → MutBor (MapView K V H)
  entry_map (Occupied entry) = entry.map
  entry_map (Vacant entry) = entry.map

  -- whether the map contains the key
  abbrev pub is_occupied : Entry K V H equal hashing → Bool
  is_occupied (Occupied entry) = true
  is_occupied (Vacant entry) = false

  -- if the map contains the key, its value is what a call leaves, and the slots stay; else the map is unchanged
  abbrev pub Modifies : (K → K → Bool) → (MutBor V → MutBor V → Type 0) → Entry K V H equal hashing → MapView K V H → Type 0
  Modifies eq changes (Occupied entry) new =
      ((own : K) × (before after : MutBor V) × changes before after
      × Replaces eq entry.map.now (eq entry.key) (own, before.now) after.now new)
      × KeepsSlots entry.map.now new
  Modifies eq changes (Vacant entry) new = new ≡ entry.map.now
