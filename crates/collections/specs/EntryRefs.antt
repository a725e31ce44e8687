-- What contracts see of the place in a map of the keys that a form stands for.
use Rattle.std.specs.Prelude.{◌≡◌, Bool, true, false}
use Rattle.std.specs.Borrow.{MutBor}
use Rattle.std.specs.declared.cmp.PartialEq as equals
use Rattle.bucket_table.specs.declared.key_hash.KeyHash as key_hash
use Rattle.collections.specs.Maps.{MapView}
use Rattle.collections.specs.Changes.{Replaces}
use Rattle.collections.specs.Slots.{KeepsSlots}
use Rattle.collections.specs.declared.key_form.KeyForm as key_form
use Rattle.collections.specs.declared.hash_map.entry.by_form.EntryRef.{EntryRef}
use Rattle.collections.specs.declared.hash_map.entry.by_form.EntryRef.TheVariants.{Occupied, Vacant}

module _ {K V H Q : Type 0} {equal : equals.Ghosts K} {hashing : key_hash.Ghosts H K} {form : key_form.Ghosts Q K H} where
  -- the form of the key
  abbrev pub ref_form : EntryRef K V H Q equal hashing form → Q
  ref_form (Occupied entry) = entry.form
  ref_form (Vacant entry) = entry.form

  -- the reference to the map
  abbrev pub ref_map : EntryRef K V H Q equal hashing form → MutBor (MapView K V H)
  ref_map (Occupied entry) = entry.map
  ref_map (Vacant entry) = entry.map

  -- whether the map contains a key that the form stands for
  abbrev pub is_ref_occupied : EntryRef K V H Q equal hashing form → Bool
  is_ref_occupied (Occupied entry) = true
  is_ref_occupied (Vacant entry) = false

  -- if the map contains such a key, its value is what a call leaves, and the slots stay; else the map is unchanged
  abbrev pub ModifiesRef : (K → K → Bool) → (Q → K → Bool) → (MutBor V → MutBor V → Type 0) → EntryRef K V H Q equal hashing form
      → MapView K V H → Type 0
  ModifiesRef eq stands_for changes (Occupied entry) new = ((own : K) × (before after : MutBor V) × changes before after
      × Replaces eq entry.map.now (stands_for entry.form) (own, before.now) after.now new)
      × KeepsSlots entry.map.now new
  ModifiesRef eq stands_for changes (Vacant entry) new = new ≡ entry.map.now
