-- The tickets of an old array and its killed buckets, as a machine without pairs, and what each call does to it.
use Rattle.std.specs.Prelude.{ℕ, ◌/◌, ◌<◌, ◌≤◌, ◌≡◌, Bool, true, false, [], Some, None, Result, Ok, Err, length, slice_index_or, slice_set}
use Rattle.bucket_table.specs.Views.ArraysView.{ArraysView, killed_flags}
use Rattle.bucket_table.specs.Rehash.Covered.{AreAllKilled, IsUnitKilled, RehashState}
use Rattle.bucket_table.specs.Views.Keeping.{KeepsOpenTickets}
use Rattle.bucket_table.specs.Rehash.State.{TicketState, first_tickets}
use Rattle.bucket_table.specs.Rehash.Steps.{Ends, Starts}
use Rattle.bucket_table.specs.declared.tickets.TicketError.{TicketError}
use Rattle.bucket_table.specs.declared.script.call.Call.{Call}
use Rattle.bucket_table.specs.declared.script.call.Call.TheVariants.{Peek, Start, Work, End}
use Rattle.bucket_table.specs.declared.script.reply.Reply.{Reply}
use Rattle.bucket_table.specs.declared.script.reply.Reply.TheVariants.{Done, Ticket, NoTicket, NoWork, Ended, Fault, Refused}

-- the machine that corresponds to a table's arrays
abbrev pub rehash_of : {K V : Type 0} → ArraysView K V → RehashState
rehash_of arrays = record { tickets = arrays.tickets; killed = killed_flags arrays.linked }

-- no old array, and so no bucket and no ticket
abbrev pub no_rehash : RehashState
no_rehash = record { tickets = first_tickets 0; killed = [] }

-- the end of a ticket, whose unit is done if its buckets are killed; the old array is dropped once all its buckets are killed and no unit
-- is left
abbrev pub EndsTicket : RehashState → ℕ → Bool → Result Bool TicketError → RehashState → Type 0
EndsTicket before ticket success (Ok true) after =
    ((last : TicketState) × Ends before.tickets ticket success (IsUnitKilled before.killed (ticket / 2048)) (Ok true) last)
    × AreAllKilled before.killed × (after ≡ no_rehash)
EndsTicket before ticket success answer after =
    Ends before.tickets ticket success (IsUnitKilled before.killed (ticket / 2048)) answer after.tickets × (after.killed ≡ before.killed)

module _ {K V : Type 0} where
  -- From the tickets `before` the call may have this reply, and `after` are the tickets after it. A call that isn't one of the rehash may
  -- work on it, end it or begin one, and opens and closes no ticket.
  abbrev pub TicketStep : RehashState → Call K V → Reply K V → RehashState → Type 0
  TicketStep before Start (Ticket ticket) after = Starts before.tickets (Some ticket) after.tickets × (after.killed ≡ before.killed)
  TicketStep before Start NoTicket after = Starts before.tickets None after.tickets × (after.killed ≡ before.killed)
  TicketStep before Start reply after = ⊥
  TicketStep before (Work index) Done after =
      (index < length before.killed) × (after ≡ record before { killed = slice_set before.killed index true })
  TicketStep before (Work index) NoWork after = (length before.killed ≤ index) × (after ≡ before)
  TicketStep before (Work index) Refused after =
      (index < length before.killed) × (slice_index_or before.killed index false ≡ false) × (after ≡ before)
  TicketStep before (Work index) reply after = ⊥
  TicketStep before (End ticket success) (Ended gone) after = EndsTicket before ticket success (Ok gone) after
  TicketStep before (End ticket success) (Fault error) after = EndsTicket before ticket success (Err error) after
  TicketStep before (End ticket success) reply after = ⊥
  TicketStep before (Peek key) reply after = after ≡ before
  TicketStep before call reply after = KeepsOpenTickets before.tickets after.tickets

  -- the call is one of the rehash, or moves nothing
  abbrev pub IsTicketCall : Call K V → Type 0
  IsTicketCall Start = Unit {0}
  IsTicketCall (Work index) = Unit {0}
  IsTicketCall (End ticket success) = Unit {0}
  IsTicketCall (Peek key) = Unit {0}
  IsTicketCall call = ⊥
