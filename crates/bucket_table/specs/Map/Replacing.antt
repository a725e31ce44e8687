-- What a call does that replaces a pair by another one.
use Rattle.std.specs.Prelude.{◌≡◌, Bool, true, Result, Ok, Err}
use Rattle.bucket_table.specs.Map.LookingUp.{IsAbsent}
use Rattle.bucket_table.specs.Map.MapState.{MapState, KeepsPairs}
use Rattle.bucket_table.specs.Map.Putting.{ReplacesPair}

-- the pair with an equal key is replaced by another one, and returned; if no key is equal, that other one is returned
abbrev pub Replaces : {K V H : Type 0} → (K → K → Bool) → K → V → MapState K V H → Result (K × V) (K × V) → MapState K V H → Type 0
Replaces eq key value old (Ok pair) new = (eq pair.0 key ≡ true) × ReplacesPair old pair (key, value) new
Replaces eq key value old (Err back) new = (back ≡ (key, value)) × IsAbsent (λ own. eq own key) old.pairs × KeepsPairs old new
