-- What the calls of a rehash do to the machine of tickets.
use Rattle.bucket_table.proofs.Words.{ArraysView, Bool, BucketView, Current, EndsRehash, IsPermutation-refl, IsTrue, IsUnmoved}
use Rattle.bucket_table.proofs.Words.{KeepsOpenTickets, KeepsPairs, Old, RelocatesAt, Result, Side, TableView, ℕ, arith, arrays_with}
use Rattle.bucket_table.proofs.Words.{bucket_at, cases_lt, entries_of, false, false≢true, get_or, inl, inr, killed_flags, length, pairs_of}
use Rattle.bucket_table.proofs.Words.{refl, set, sym, true, with_bucket, ◌<◌, ◌↔◌, ◌∙◌, ◌≡◌, ◌≤◌}
use Rattle.bucket_table.specs.declared.tickets.TicketError.{TicketError}
use Rattle.bucket_table.specs.Map.MapState.{state_of}
use Rattle.bucket_table.specs.Scripts.TicketCalls.{rehash_of}
use Rattle.bucket_table.proofs.Rehash.Ending.{others_ended}
use Rattle.bucket_table.proofs.Views.Killed.{get_or-killed_flags, length-killed_flags}
use Rattle.bucket_table.proofs.Map.MapKept.{others_than_pairs}
use Rattle.bucket_table.proofs.Rehash.MovesInArrays.{flags_set}

module _ {K V : Type 0} where
  -- a bucket is replaced, on either side
  pub bag_with : (a : ArraysView K V) (side : Side) (i : ℕ) (b : BucketView K V)
      → KeepsOpenTickets a.tickets (arrays_with a side i b).tickets
  bag_with a Old i b = λ unit. refl
  bag_with a Current i b = λ unit. refl

  -- an old bucket is killed
  pub kills_as : (index : ℕ) (old new : ArraysView K V) → index < length old.linked → RelocatesAt index old new
      → (index < length (killed_flags old.linked)) ×
      (rehash_of new ≡ record (rehash_of old) { killed = set (killed_flags old.linked) index true })
  kills_as index old new within moved =
      let flags = length-killed_flags old.linked in
      (omega (arith, within, flags), rw (moved.tickets_are, moved.linked_is, flags_set old.linked index moved.bucket moved.is_killed) refl)

  -- the move of an old bucket fails, and the bucket isn't killed
  pub refuses_as : (index : ℕ) (old new : ArraysView K V) → index < length old.linked → IsUnmoved old new
      → (bucket_at old.linked index).killed ≡ false
      → (index < length (killed_flags old.linked)) × (get_or (killed_flags old.linked) index false ≡ false) ×
      (rehash_of new ≡ rehash_of old)
  refuses_as index old new within same alive =
      let flags = length-killed_flags old.linked in
      (omega (arith, within, flags), get_or-killed_flags old.linked index within ∙ alive, rw (same.tickets_are, same.linked_is) refl)

  -- there is no such old bucket
  pub no_bucket : (index : ℕ) (arrays : ArraysView K V) {seen : Bool} → (IsTrue seen ↔ (index < length arrays.linked)) → seen ≡ false
      → length (killed_flags arrays.linked) ≤ index
  no_bucket index arrays means is = elim (cases_lt index (length arrays.linked)) [
    | inl some ↦ absurd (false≢true (sym is ∙ means.1 some))
    | inr none ↦ let flags = length-killed_flags arrays.linked in omega (arith, none, flags)
  ]

module _ {K V H : Type 0} where
  -- a bucket of the table has changed
  pub bag_set : (t s : TableView K V H) (side : Side) (index : ℕ) (bucket : BucketView K V)
      → s ≡ with_bucket t side index bucket → KeepsOpenTickets t.arrays.tickets s.arrays.tickets
  bag_set t s side index bucket is = rw is (bag_with t.arrays side index bucket)

  -- an end keeps the map
  pub ended_map : (kind : ℕ) (hasher : H) (old new : ArraysView K V) (ticket : ℕ) (success : Bool) (answer : Result Bool TicketError)
      → entries_of new ≡ entries_of old → EndsRehash old ticket success answer new
      → KeepsPairs (state_of kind (record { hasher = hasher; arrays = old })) (state_of kind (record { hasher = hasher; arrays = new }))
  ended_map kind hasher old new ticket success answer same ends =
      let (minimum, maximum, current) = others_ended old new ticket success answer ends in
      record {
        pairs = rw same (IsPermutation-refl (pairs_of old));
        others = others_than_pairs kind (record { hasher = hasher; arrays = old }) (record { hasher = hasher; arrays = new }) refl minimum
            maximum;
      }
