-- Which units of an old array are issued.
use Rattle.std.specs.Prelude.{ℕ, ◌+◌, ◌*◌, ◌^◌, ◌<◌, ◌≤◌, ◌≡◌, List, [], length}
use Rattle.std.specs.List.{Contains, All}

-- the next unit to issue, the units issued and not ended, and the number of old buckets
pub record TicketState : Type 0 where
  pub position : ℕ
  pub open_units : List ℕ
  pub len : ℕ

-- no unit of an array with `len` buckets was issued
abbrev pub first_tickets : ℕ → TicketState
first_tickets len = record { position = 0; open_units = []; len = len }

-- the rehash word
abbrev pub word_of : TicketState → ℕ
word_of state = 2048 * state.position + length state.open_units

-- the word is the ticket of a unit that is open
abbrev pub IsOpen : TicketState → ℕ → Type 0
IsOpen state ticket = (unit : ℕ) × (ticket ≡ 2048 * unit) × Contains state.open_units unit

-- what holds of the position and the open tickets
pub record IsTicketState (state : TicketState) : Type 0 where
  pub few_buckets : state.len ≤ 2 ^ 58
  pub few_open : length state.open_units ≤ 2047
  pub position_in_range : 64 * state.position < state.len + 64
  pub units_in_range : All (λ unit. 64 * unit < state.len) state.open_units
