-- Finishing a rehash, unit by unit.
use Rattle.std.specs.Prelude.{ℕ, ◌+◌, ◌*◌, ◌-◌, ◌/◌, ◌<◌, ◌≡◌, Bool, true, false, [], Option, IfNone, IfSome, length}
use Rattle.bucket_table.specs.Rehash.Units.{NeedsMemory}
use Rattle.bucket_table.specs.Views.ArraysView.{ArraysView}

-- the number of units of the old array left to issue: those from the position on
abbrev pub units_left : {K V : Type 0} → ArraysView K V → ℕ
units_left arrays = (length arrays.linked + 63) / 64 - arrays.tickets.position

-- no ticket is open
abbrev pub IsUnopened : {K V : Type 0} → ArraysView K V → Type 0
IsUnopened arrays = 0 < length arrays.linked → arrays.tickets.open_units ≡ []

-- if no ticket was open, one unit is worked, and finished unless allocation fails; then it is still the next one; there is a unit exactly
-- while there is an old array
pub record Finishes {K V : Type 0} (old : ArraysView K V) (answer : Option Bool) (new : ArraysView K V) : Type 0 where
  pub none_open : new.tickets.open_units ≡ []
  pub none : IfNone answer ((length old.linked ≡ 0) × (new ≡ old))
  pub one : IfSome answer (λ success. (64 * old.tickets.position < length old.linked)
      × (success ≡ true → units_left new + 1 ≡ units_left old)
      × (success ≡ false → (new.tickets.position ≡ old.tickets.position) × NeedsMemory (λ i. Unit {0}) old new))
