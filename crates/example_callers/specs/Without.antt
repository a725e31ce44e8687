-- Maps without the keys of a list.
use Rattle.std.specs.Prelude.{◌≡◌, Bool, cond, List, None}
use Rattle.std.specs.List.{list_any}
use Rattle.collections.specs.Maps.{MapView, get}

-- each key that is equal to one of the list is absent, and each other key has what it had
abbrev pub IsWithout : {K V H : Type 0} → (K → K → Bool) → List K → MapView K V H → MapView K V H → Type 0
IsWithout eq keys old new = (key : _) → get eq new key ≡ cond (list_any (eq key) keys) None (get eq old key)
