-- How the fields of an old array hold its view. No public clause cites this module.
use Rattle.std.specs.Prelude.{List, [], Box, Option, Some, None}
use Rattle.bucket_slots.specs.BucketView.{BucketView}
use Rattle.bucket_table.specs.Rehash.State.{TicketState, first_tickets}
use Rattle.bucket_table.specs.declared.arrays.old_array.Rehash.{Rehash}

-- the buckets of an old array, none where there is none, and its tickets
pub record OldView (K V : Type 0) : Type 0 where
  pub array : List (BucketView K V)
  pub tickets : TicketState

-- there is no old array
abbrev pub no_old : {K V : Type 0} → OldView K V
no_old = record { array = []; tickets = first_tickets 0 }

abbrev pub old_view : {K V A : Type 0} → Option (Box (Rehash (List (BucketView K V))) A) → OldView K V
old_view None = no_old
old_view (Some rehash) = record { array = rehash.value.array; tickets = rehash.value.tickets }

-- the box with another array
abbrev pub with_array : {A B : Type 0} → Box (Rehash A) B → A → Box (Rehash A) B
with_array rehash array = record rehash { value = record rehash.value { array = array } }

abbrev pub held_with_array : {A B : Type 0} → Option (Box (Rehash A) B) → A → Option (Box (Rehash A) B)
held_with_array None array = None
held_with_array (Some rehash) array = Some (with_array rehash array)
