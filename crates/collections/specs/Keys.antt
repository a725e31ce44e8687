-- Functions called with the keys of a set, and the keys of two sets.
use Rattle.std.specs.Prelude.{◌≡◌, Bool, List, ◌++◌, filter, length, not}
use Rattle.std.specs.Borrow.{Bor}
use Rattle.std.specs.Fn.{CalledAt, Mut}
use Rattle.std.specs.List.{FoldsTo, items_where_true}
use Rattle.std.specs.List.Retain.{ReturnsInTurn}
use Rattle.std.specs.Map.{keys_of}
use Rattle.collections.specs.Changes.{Keeps}
use Rattle.collections.specs.Maps.{MapView, contains}

module _ {F K : Type 0} (calls : Mut F (Bor K × Unit {0}) (Unit {0})) where
  -- a function is called with each key in turn, from one state to another
  abbrev pub CallsEachKey : F → List K → F → Type 0
  CallsEachKey first keys last = FoldsTo (λ state key next. CalledAt calls state key tt next) first keys last

module _ {K V H : Type 0} (eq : K → K → Bool) where
  -- the keys of a map that another contains too
  abbrev pub keys_within : MapView K V H → MapView K V H → List K
  keys_within own other = filter (contains eq other) (keys_of own.entries)

  -- the keys of a map that another does not contain
  abbrev pub keys_outside : MapView K V H → MapView K V H → List K
  keys_outside own other = filter (λ key. not (contains eq other key)) (keys_of own.entries)

  -- the keys of a map, and then those of another that it does not contain
  abbrev pub keys_of_either : MapView K V H → MapView K V H → List K
  keys_of_either own other = keys_of own.entries ++ keys_outside other own

  -- the keys of a map that another does not contain, and then those of the other that it does not contain
  abbrev pub keys_of_one : MapView K V H → MapView K V H → List K
  keys_of_one own other = keys_outside own other ++ keys_outside other own

  -- a function is called with each key in turn, from one state to the next: those for which it returns true are left, in their order, and
  -- the slots stay, also the old ones
  pub record RetainsKeys {F : Type 0} (asks : Mut F (Bor K × Unit {0}) Bool) (first : F) (old new : MapView K V H) (last : F) : Type 0 where
    pub answers : List Bool
    pub one_each : length answers ≡ length (keys_of old.entries)
    pub asked : ReturnsInTurn (CalledAt asks) first answers (keys_of old.entries) last
    pub left : keys_of new.entries ≡ items_where_true answers (keys_of old.entries)
    pub kept : Keeps eq old new
    pub slots : new.slots ≡ old.slots
    pub old_slots : new.old_slots ≡ old.old_slots
