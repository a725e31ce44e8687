-- What most calls keep.
use Rattle.std.specs.Prelude.{ℕ, ◌≡◌, ◌==◌, true, List, length}
use Rattle.std.specs.List.{count_by}
use Rattle.std.specs.List.Sorted.{IsPermutation}
use Rattle.bucket_slots.specs.ArrayView.{bucket_at}
use Rattle.bucket_slots.specs.BucketView.{BucketView}
use Rattle.bucket_slots.specs.Marking.{HasNoNewMark}
use Rattle.bucket_table.specs.Views.ArraysView.{ArraysView, entries_of, tombstones_of}
use Rattle.bucket_table.specs.Rehash.Carrying.{CarriesOrder}
use Rattle.bucket_table.specs.Rehash.State.{TicketState}

-- the bag of open units is as it was: each unit is open as often
abbrev pub KeepsOpenTickets : TicketState → TicketState → Type 0
KeepsOpenTickets old new = (unit : ℕ) → count_by (λ other. other == unit) new.open_units ≡ count_by (λ other. other == unit) old.open_units

-- the pairs, the capacities and the open tickets stay, and no tombstone is new
pub record Keeps {K V : Type 0} (old new : ArraysView K V) : Type 0 where
  pub pairs : IsPermutation (entries_of old) (entries_of new)
  pub marks : HasNoNewMark (tombstones_of old) (tombstones_of new)
  pub minimum : new.minimum ≡ old.minimum
  pub maximum : new.maximum ≡ old.maximum
  pub open_tickets : KeepsOpenTickets old.tickets new.tickets

-- the same, and the length of the current array stays, and the LRU order is carried
pub record KeepsArrays {K V : Type 0} (old new : ArraysView K V) : Type 0 where
  pub keeps : Keeps old new
  pub current_len : length new.current ≡ length old.current
  pub order : CarriesOrder old new

-- the number of buckets is the same, and those that were killed still are
pub record StayKilled {K V : Type 0} (old new : List (BucketView K V)) : Type 0 where
  pub len : length new ≡ length old
  pub still : (i : ℕ) → (bucket_at old i).killed ≡ true → (bucket_at new i).killed ≡ true
