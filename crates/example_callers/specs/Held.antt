-- How many of each name a map of counts holds.
use Rattle.std.specs.Prelude.{ℕ, ◌≡◌, Bool, cond}
use Rattle.std.specs.Option.{unwrap_or}
use Rattle.collections.specs.Maps.{MapView, get}

module _ {K H : Type 0} (eq : K → K → Bool) where
  -- the number at a name, 0 if the map does not contain it
  abbrev pub held : MapView K ℕ H → K → ℕ
  held counts name = unwrap_or (get eq counts name) 0

  -- a name has this number, and each other name what it had
  abbrev pub HoldsThen : MapView K ℕ H → K → ℕ → MapView K ℕ H → Type 0
  HoldsThen old name number new = (other : K) → held new other ≡ cond (eq name other) number (held old other)

  -- each name has what it had
  abbrev pub HoldsAsBefore : MapView K ℕ H → MapView K ℕ H → Type 0
  HoldsAsBefore old new = (other : K) → held new other ≡ held old other
