-- A call that removes the pair of a key from a map.
use Rattle.std.specs.Prelude.{◌≡◌, Bool, true, Option, Some, None, Result, Ok, Err}
use Rattle.bucket_table.specs.Map.LookingUp.{IsAbsent}
use Rattle.bucket_table.specs.Map.MapState.{KeepsPairs, MapState, TakesPair}

-- the pair whose key is equal is removed; or none has such a key; or allocation failed and nothing changes
abbrev pub TakesKey : {K V H E : Type 0} → (K → K → Bool) → K → MapState K V H → Result (Option (K × V)) E → MapState K V H → Type 0
TakesKey eq key old (Ok (Some pair)) new = (eq pair.0 key ≡ true) × TakesPair old pair new
TakesKey eq key old (Ok None) new = IsAbsent (λ own. eq own key) old.pairs × KeepsPairs old new
TakesKey eq key old (Err refused) new = KeepsPairs old new
