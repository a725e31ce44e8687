-- Maps that count the keys of a list.
use Rattle.std.specs.Prelude.{ℕ, ◌≡◌, ◌==◌, ◌+◌, ◌-◌, ◌^◌, Bool, if◌then◌else◌, List, take, Option, Some, None, min, unwrap_or}
use Rattle.std.specs.List.{count_by}
use Rattle.collections.specs.Changes.{Updates}
use Rattle.collections.specs.Maps.{MapView, get, get_by}

-- a number, if there is something to count
abbrev pub unless_zero : ℕ → Option ℕ
unless_zero number = if number == 0 then None else Some number

module _ {K H : Type 0} (eq : K → K → Bool) where
  -- each key of the list has the number of its occurrences, and the map has no other key
  abbrev pub Counts : List K → MapView K ℕ H → Type 0
  Counts keys counts = (key : K) → get eq counts key ≡ unless_zero (count_by (eq key) keys)

  -- the map counts the first keys of the list, up to some place
  abbrev pub CountsFirst : List K → MapView K ℕ H → Type 0
  CountsFirst keys counts = (place : ℕ) × Counts (take place keys) counts

  -- the matching key is counted once more, from 0 if the map does not contain it, and each other key has what it had
  abbrev pub CountsOneMore : (K → Bool) → MapView K ℕ H → MapView K ℕ H → Type 0
  CountsOneMore matches old new = Updates eq old matches (Some (min (unwrap_or (get_by matches old) 0 + 1) (2 ^ 64 - 1))) new
