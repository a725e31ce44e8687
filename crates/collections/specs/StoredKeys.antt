-- The keys that a map or a set itself stores, not only keys that are equal to them.
use Rattle.std.specs.Prelude.{◌≡◌, Bool, true, List, ◌∷◌, Option, Some}
use Rattle.std.specs.List.Sorted.{IsPermutation}
use Rattle.std.specs.Map.{lookup_key}
use Rattle.collections.specs.Changes.{Keeps}
use Rattle.collections.specs.Maps.{MapView, get, map_len}

module _ {K V H : Type 0} where
  -- the map's own key: the first that passes a test
  abbrev pub key_by : (K → Bool) → MapView K V H → Option K
  key_by test m = lookup_key test m.entries

  -- another key replaces an equal one, with the same value, and each key has the value that it had
  pub record ReplacesKey (eq : K → K → Bool) (old : MapView K V H) (pair : K × V) (later : K) (new : MapView K V H) : Type 0 where
    pub same : eq pair.0 later ≡ true
    pub value : get eq old later ≡ Some pair.1
    pub rest : List (K × V)
    pub before : IsPermutation old.entries (pair ∷ rest)
    pub after : IsPermutation ((later, pair.1) ∷ rest) new.entries
    pub len : map_len new ≡ map_len old
    pub gets : (key : K) → get eq new key ≡ get eq old key
    pub kept : Keeps eq old new
