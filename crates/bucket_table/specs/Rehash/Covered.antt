-- No unit of an old array is lost.
use Rattle.std.specs.Prelude.{ℕ, ◌+◌, ◌*◌, ◌<◌, ◌≤◌, ◌≡◌, ◌⊎◌, Bool, true, false, List, length, slice_index_or}
use Rattle.std.specs.List.{Contains, All}
use Rattle.bucket_table.specs.Rehash.State.{TicketState}

-- an old array without its pairs: its tickets, and which of its buckets are killed
pub record RehashState : Type 0 where
  pub tickets : TicketState
  pub killed : List Bool

-- each old bucket of the unit is killed
abbrev pub IsUnitKilled : List Bool → ℕ → Type 0
IsUnitKilled killed unit = (i : ℕ) → 64 * unit ≤ i → i < 64 * unit + 64 → i < length killed → slice_index_or killed i false ≡ true

abbrev pub AreAllKilled : List Bool → Type 0
AreAllKilled killed = (i : ℕ) → i < length killed → slice_index_or killed i false ≡ true

-- each unit below the position is wholly killed or issued
pub record IsCovered (killed : List Bool) (state : TicketState) : Type 0 where
  pub same_len : length killed ≡ state.len
  pub units_in_range : All (λ unit. 64 * unit < state.len) state.open_units
  pub done_or_open : (unit : ℕ) → unit < state.position → IsUnitKilled killed unit ⊎ Contains state.open_units unit
