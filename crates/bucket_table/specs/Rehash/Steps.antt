-- Starting and ending a ticket.
use Rattle.std.specs.Prelude.{ℕ, ◌+◌, ◌*◌, ◌<◌, ◌≤◌, ◌≡◌, ◌↔◌, ◌⊎◌, Bool, true, IsTrue, [], ◌∷◌, if◌then◌else◌, length, min}
use Rattle.std.specs.Prelude.{Option, Some, None, Result, Ok, Err}
use Rattle.std.specs.List.Sorted.{IsPermutation}
use Rattle.bucket_table.specs.Rehash.State.{TicketState, IsOpen}
use Rattle.bucket_table.specs.declared.tickets.TicketError.{TicketError}
use Rattle.bucket_table.specs.declared.tickets.TicketError.TheVariants.{NotOpen, NotDone}

-- the unit at the position is issued
pub record HandsOut (before : TicketState) (ticket : ℕ) (after : TicketState) : Type 0 where
  pub is_left : 64 * before.position < before.len
  pub has_room : length before.open_units < 2047
  pub ticket_is : ticket ≡ 2048 * before.position
  pub position_is : after.position ≡ before.position + 1
  pub open_is : IsPermutation (before.position ∷ before.open_units) after.open_units
  pub same_len : after.len ≡ before.len

abbrev pub Starts : TicketState → Option ℕ → TicketState → Type 0
Starts before None after = ((before.len ≤ 64 * before.position) ⊎ (length before.open_units ≡ 2047)) × (after ≡ before)
Starts before (Some ticket) after = HandsOut before ticket after

-- one ticket of the unit is closed, and a unit that failed is issued again
pub record Closes (before : TicketState) (unit : ℕ) (success : Bool) (after : TicketState) : Type 0 where
  pub open_is : IsPermutation before.open_units (unit ∷ after.open_units)
  pub position_is : after.position ≡ (if success then before.position else min before.position unit)
  pub same_len : after.len ≡ before.len

-- no unit is left, neither open nor to issue
abbrev pub IsOver : TicketState → Type 0
IsOver state = (state.open_units ≡ []) × (state.len ≤ 64 * state.position)

-- `Done` states that each bucket of the ticket's unit is killed, and the result is whether the old array is dropped
abbrev pub Ends : TicketState → ℕ → Bool → Type 0 → Result Bool TicketError → TicketState → Type 0
Ends before ticket success Done (Err NotOpen) after = (IsOpen before ticket → ⊥) × (after ≡ before)
Ends before ticket success Done (Err NotDone) after = IsOpen before ticket × (success ≡ true) × (Done → ⊥) × (after ≡ before)
Ends before ticket success Done (Ok gone) after =
    (unit : ℕ) × (ticket ≡ 2048 * unit) × (success ≡ true → Done) × Closes before unit success after
    × (IsTrue gone ↔ ((success ≡ true) × IsOver after))
