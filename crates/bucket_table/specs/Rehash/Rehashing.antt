-- What the calls of a rehash do to a table's old array and its tickets.
use Rattle.std.specs.Prelude.{ℕ, ◌/◌, ◌≡◌, Bool, true, [], Result, Ok, length, slice_set}
use Rattle.bucket_slots.specs.ArrayView.{bucket_at}
use Rattle.bucket_slots.specs.BucketView.{BucketView, marks_in, pairs_in}
use Rattle.bucket_slots.specs.Homes.{Meets}
use Rattle.bucket_table.specs.Views.ArraysView.{ArraysView, killed_flags}
use Rattle.bucket_table.specs.Rehash.Relocation.{KeepsEntries}
use Rattle.bucket_table.specs.Rehash.Covered.{AreAllKilled, IsUnitKilled}
use Rattle.bucket_table.specs.Rehash.State.{TicketState, first_tickets}
use Rattle.bucket_table.specs.Rehash.Steps.{Ends}
use Rattle.bucket_table.specs.Views.Keeping.{KeepsArrays}
use Rattle.bucket_table.specs.declared.tickets.TicketError.{TicketError}

-- the end of a ticket, whose unit is done if its buckets are killed; the old array is dropped once all its buckets are killed and no unit
-- is left
abbrev pub EndsRehash : {K V : Type 0} → ArraysView K V → ℕ → Bool → Result Bool TicketError → ArraysView K V → Type 0
EndsRehash old ticket success (Ok true) new =
    ((last : TicketState) × Ends old.tickets ticket success (IsUnitKilled (killed_flags old.linked) (ticket / 2048)) (Ok true) last)
    × AreAllKilled (killed_flags old.linked) × (new ≡ record old { linked = []; tickets = first_tickets 0 })
EndsRehash old ticket success answer new =
    Ends old.tickets ticket success (IsUnitKilled (killed_flags old.linked) (ticket / 2048)) answer new.tickets
    × (new ≡ record old { tickets = new.tickets })

-- the old bucket is killed, without a pair, and keeps its tombstones; its pairs are in the current array, and only its targets change; if
-- it was killed already, nothing changes
pub record RelocatesAt {K V : Type 0} (index : ℕ) (old new : ArraysView K V) : Type 0 where
  pub bucket : BucketView K V
  pub is_killed : bucket.killed ≡ true
  pub empty : pairs_in bucket ≡ []
  pub marks : marks_in bucket ≡ marks_in (bucket_at old.linked index)
  pub linked_is : new.linked ≡ slice_set old.linked index bucket
  pub tickets_are : new.tickets ≡ old.tickets
  pub others : (j : ℕ) → (Meets (length old.linked) index (length old.current) j → ⊥) → bucket_at new.current j ≡ bucket_at old.current j
  pub again : (bucket_at old.linked index).killed ≡ true → new ≡ old
  pub kept : KeepsArrays old new

-- the old array and the pairs stay
pub record IsUnmoved {K V : Type 0} (old new : ArraysView K V) : Type 0 where
  pub linked_is : new.linked ≡ old.linked
  pub tickets_are : new.tickets ≡ old.tickets
  pub current_is : KeepsEntries old.current new.current
  pub kept : KeepsArrays old new
