-- What an entry is when a mutable borrow of the value under its key ends.
use Rattle.std.specs.Prelude.{◌≡◌, Bool, true, false, List, [], ◌∷◌, Some, cond, refl, IsSome}
use Rattle.std.proofs.Common.{subst, sym}
use Rattle.std.specs.Borrow.{Fml, Lends, MutBor, RattleType}
use Rattle.std.specs.Map.{lookup, set_value}
use mir.Syntax.{named}
use Rattle.std.specs.declared.cmp.PartialEq as equals
use Rattle.bucket_table.specs.declared.key_hash.KeyHash as key_hash
use Rattle.collections.specs.Maps.{map_with_value}
use Rattle.collections.specs.declared.hash_map.entry.OccupiedEntry.{OccupiedEntry}
use Rattle.collections.specs.declared.hash_map.entry.by_form.OccupiedEntryRef.{OccupiedEntryRef}
use Rattle.collections.specs.declared.key_form.KeyForm as key_form
use Rattle.collections.specs.contracts.hash_map.entry.OccupiedEntry as occupied
use Rattle.collections.specs.contracts.hash_map.entry.by_form.OccupiedEntryRef as occupied_ref

-- a key that is present stays present when its value changes
pub still_there : {K V : Type 0} (test : K → Bool) (entries : List (K × V)) (value : V) → IsSome (lookup test entries)
    → IsSome (lookup test (set_value test entries value))
still_there test [] value there = there
still_there {K} {V} test (pair ∷ entries) value there = from (test pair.0) refl (still_there test entries value) there
  where
    from : (passes : Bool) → test pair.0 ≡ passes → (IsSome (lookup test entries) → IsSome (lookup test (set_value test entries value)))
        → IsSome (cond passes (Some pair.1) (lookup test entries))
        → IsSome (lookup test (cond passes ((pair.0, value) ∷ entries) (pair ∷ set_value test entries value)))
    from true is rest there = subst (λ (b : Bool). IsSome (cond b (Some value) (lookup test entries))) (sym is) refl
    from false is rest there =
        subst (λ (b : Bool). IsSome (cond b (Some pair.1) (lookup test (set_value test entries value)))) (sym is) (rest there)

module _ {K V H : Type 0} {equal : equals.Ghosts K} {hashing : key_hash.Ghosts H K} where
  -- an entry with another value under its key
  abbrev pub with_entry_value : OccupiedEntry K V H equal hashing → V → OccupiedEntry K V H equal hashing
  with_entry_value place value = record {
    map = record place.map { now = map_with_value (equal.eq place.key) place.map.now value };
    key = place.key;
    hash = place.hash;
    hashed = place.hashed;
    there = still_there (equal.eq place.key) place.map.now.entries value place.there;
  }

module _ (K V H : RattleType) (equal : equals.Ghosts K.Denot) (hashing : key_hash.Ghosts H.Denot K.Denot) where
  -- the value under the key is the last one written through the borrow. The entry's lifetime is the second of the signature
  abbrev pub LendsHeld : MutBor (OccupiedEntry K.Denot V.Denot H.Denot equal hashing) → MutBor V.Denot → Fml
  LendsHeld place lent = Lends (occupied.the_row (record { mir = named 1; lft = [] }) K V H equal hashing (record {})) V place lent
      (with_entry_value place.now)

module _ {K V H Q : Type 0} {equal : equals.Ghosts K} {hashing : key_hash.Ghosts H K} {form : key_form.Ghosts Q K H} where
  -- an entry by a form with another value under its key
  abbrev pub with_ref_value : OccupiedEntryRef K V H Q equal hashing form → V → OccupiedEntryRef K V H Q equal hashing form
  with_ref_value place value = record {
    map = record place.map { now = map_with_value (form.stands_for place.form) place.map.now value };
    form = place.form;
    hash = place.hash;
    hashed = place.hashed;
    there = still_there (form.stands_for place.form) place.map.now.entries value place.there;
  }

module _ (K V H Q : RattleType) (equal : equals.Ghosts K.Denot) (hashing : key_hash.Ghosts H.Denot K.Denot)
    (form : key_form.Ghosts Q.Denot K.Denot H.Denot) where
  -- the same for an entry by a form
  abbrev pub LendsHeldRef : MutBor (OccupiedEntryRef K.Denot V.Denot H.Denot Q.Denot equal hashing form) → MutBor V.Denot → Fml
  LendsHeldRef place lent =
      Lends (occupied_ref.the_row (record { mir = named 1; lft = [] }) K V H Q equal hashing form (record {})) V place lent
      (with_ref_value place.now)
