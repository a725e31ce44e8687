-- How the fields hold the tickets. No public clause cites this module.
use Rattle.std.specs.Prelude.{◌<◌, ◌≤◌, length, vec_capacity}
use Rattle.bucket_table.specs.Rehash.State.{TicketState, IsTicketState}
use Rattle.bucket_table.specs.declared.tickets.Tickets.TheInside.{Inside}

abbrev pub state_of : Inside → TicketState
state_of fields = record { position = fields.position; open_units = fields.open_units.items; len = fields.len }

-- the list has room for each ticket that can be open: one where the array is one unit
pub record HasRoom (fields : Inside) : Type 0 where
  pub room_for_one : 0 < fields.len → 1 ≤ vec_capacity fields.open_units
  pub room : 64 < fields.len → 2047 ≤ vec_capacity fields.open_units
  pub single : fields.len ≤ 64 → length fields.open_units.items ≤ fields.position
  pub state : IsTicketState (state_of fields)
