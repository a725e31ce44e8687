-- Removals of a pair if a function returns true for it.
use Rattle.std.specs.Prelude.{◌≡◌, ◌⊎◌, Bool, true, false, Option, Some, None}
use Rattle.std.specs.Borrow.{Bor}
use Rattle.bucket_table.specs.Map.LookingUp.{IsThere}
use Rattle.collections.specs.Changes.{Takes}
use Rattle.collections.specs.Maps.{MapView, get_by}

module _ {K V H : Type 0} (eq : K → K → Bool) (matches : K → Bool) (asks : Bor K → Bor V → Bool → Type 0) where
  -- a function was called with the pair whose key matches, and this is its result; or no key matches, and the result is false
  abbrev pub AsksThere : MapView K V H → Bool → Type 0
  AsksThere map answer = ((get_by matches map ≡ None) × (answer ≡ false))
      ⊎ ((own : Bor K) × (value : Bor V) × IsThere matches map.entries (own.now, value.now) × asks own value answer)

  -- the pair whose key matches is removed if a function returns true for it; else nothing changes
  abbrev pub RemovesIf : MapView K V H → Option (K × V) → MapView K V H → Type 0
  RemovesIf old (Some pair) new =
      (own : Bor K) × (value : Bor V) × ((own.now, value.now) ≡ pair) × asks own value true × Takes eq old matches pair new
  RemovesIf old None new = AsksThere old false × (new ≡ old)

  -- the same, if the result is whether a pair was removed
  abbrev pub TakesOutIf : MapView K V H → Bool → MapView K V H → Type 0
  TakesOutIf old true new = (pair : K × V) × RemovesIf old (Some pair) new
  TakesOutIf old false new = RemovesIf old None new
