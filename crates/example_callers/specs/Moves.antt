-- What moves add to each name, and what they take.
use Rattle.std.specs.Prelude.{ℕ, ◌≡◌, ◌+◌, Bool, true, false, if◌then◌else◌, not, ◌&&◌, List, [], ◌∷◌}
use Rattle.collections.specs.Maps.{MapView}
use Rattle.example_callers.specs.Held.{held}
use Rattle.example_callers.specs.declared.ledger.Move.{Move}

module _ {K : Type 0} (eq : K → K → Bool) where
  -- how much moves of one kind move of a name
  abbrev pub moved : Bool → List (Move K) → K → ℕ
  moved kind [] name = 0
  moved kind (m ∷ ms) name = (if eq m.name name && (if kind then m.is_added else not m.is_added) then m.count else 0) + moved kind ms name

  -- each name holds what it held, and what was added to it less what was taken
  abbrev pub Settles : {H : Type 0} → List (Move K) → MapView K ℕ H → MapView K ℕ H → Type 0
  Settles moves old new = (name : K) → held eq new name + moved false moves name ≡ held eq old name + moved true moves name
