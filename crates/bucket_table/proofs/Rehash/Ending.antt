-- What starting and ending a ticket leave of a table's arrays.
use Rattle.bucket_table.proofs.Words.{All, ArePlaced, ArraysView, Bool, BucketView, Ends, EndsRehash, Err, HasNoNewMark, IsPermutation}
use Rattle.bucket_table.proofs.Words.{IsTrue, List, LosesNoUnit, None, Ok, Option, Result, Some, Starts, TicketState, ℕ, [], ap, arith}
use Rattle.bucket_table.proofs.Words.{bucket_at, entries_of, false, first_tickets, killed_flags, length, length_permutation, listed_pairs}
use Rattle.bucket_table.proofs.Words.{marks_among, tombstones_of, no_new-refl, pairs_in, refl, subst, suc, sym, true, zero, ◌*◌, ◌/◌, ◌↔◌, ◌∷◌}
use Rattle.bucket_table.proofs.Words.{◌≡◌}
use Rattle.bucket_slots.proofs.MarksAfter.{no_new-append, no_new-none}
use Rattle.bucket_table.specs.Rehash.Carrying.{CarriesOrder, chained_pairs}
use Rattle.bucket_table.specs.Rehash.Covered.{AreAllKilled, IsUnitKilled}
use Rattle.bucket_table.specs.declared.tickets.TicketError.{TicketError}
use Rattle.bucket_table.specs.declared.tickets.TicketError.TheVariants.{NotDone, NotOpen}
use Rattle.bucket_table.proofs.Moves.CarriedOrder.{carries_unmoved, unchained_empty, unlisted_empty}
use Rattle.bucket_table.proofs.Moves.Staying.{stay_same}
use Rattle.bucket_table.proofs.Rehash.Covering.{all_killed, covered_end, covered_start, going_on_end, going_on_start}
use Rattle.bucket_table.proofs.Views.Killed.{no_pairs}
use Rattle.bucket_table.proofs.Views.Laws.{loses_none}

-- the end of a ticket, whose unit is done if its buckets are killed
abbrev pub EndsBy : {K V : Type 0} → ArraysView K V → ℕ → Bool → Result Bool TicketError → TicketState → Type 0
EndsBy arrays ticket success answer after =
    Ends arrays.tickets ticket success (IsUnitKilled (killed_flags arrays.linked) (ticket / 2048)) answer after

unit_of : (ticket unit : ℕ) → ticket ≡ 2048 * unit → ticket / 2048 ≡ unit
unit_of ticket unit is = omega arith

-- the fact that a unit is done may be replaced by an equivalent one
pub ends_as : (before after : TicketState) (ticket : ℕ) (success : Bool) (P Q : Type 0) (answer : Result Bool TicketError) → (P ↔ Q)
    → Ends before ticket success P answer after → Ends before ticket success Q answer after
ends_as before after ticket success P Q (Ok gone) means (unit, is, done, closes, goes) = (unit, is, λ e. means.0 (done e), closes, goes)
ends_as before after ticket success P Q (Err NotOpen) means h = h
ends_as before after ticket success P Q (Err NotDone) means h = (h.0, h.1, λ q. h.2 (means.1 q), h.3)

same_at_err : (before after : TicketState) (ticket : ℕ) (success : Bool) (Done : Type 0) (error : TicketError)
    → Ends before ticket success Done (Err error) after → after ≡ before
same_at_err before after ticket success Done NotOpen h = h.1
same_at_err before after ticket success Done NotDone h = h.3

-- what isn't open can't be ended
none_closed : (before : TicketState) (unit : ℕ) (after : List ℕ) → before.open_units ≡ [] → IsPermutation before.open_units (unit ∷ after)
    → ⊥
none_closed before unit after none moved =
    absurd (omega (arith, length_permutation _ _ moved, ap (λ (us : List ℕ). length us) none))

module _ {K V : Type 0} where
  -- issuing a unit keeps every unit covered
  pub started : (buckets : List (BucketView K V)) (before after : TicketState) (answer : Option ℕ) → Starts before answer after
      → LosesNoUnit buckets before → LosesNoUnit buckets after
  started buckets before after None starts kept = rw starts.1 kept
  started buckets before after (Some ticket) starts kept = record {
    covered = covered_start (killed_flags buckets) before after ticket starts kept.covered;
    going_on = λ some. going_on_start before after ticket starts;
    emptied = kept.emptied;
  }

  pub all_killed_by : (old : ArraysView K V) (last : TicketState) (ticket : ℕ) (success : Bool) → LosesNoUnit old.linked old.tickets
      → EndsBy old ticket success (Ok true) last → AreAllKilled (killed_flags old.linked)
  all_killed_by old last ticket success kept (unit, is, done, closes, goes) =
      let covered = covered_end (killed_flags old.linked) old.tickets last unit success closes
      (λ e. subst (λ (u : ℕ). IsUnitKilled (killed_flags old.linked) u) (unit_of ticket unit is) (done e)) kept.covered in
      all_killed (killed_flags old.linked) last covered (goes.0 refl).1

  unlisted_all : (buckets : List (BucketView K V)) → AreAllKilled (killed_flags buckets)
      → All (λ (bucket : BucketView K V). bucket.killed ≡ true → pairs_in bucket ≡ []) buckets
      → (i : ℕ) → (listed_pairs (bucket_at buckets i) ≡ []) × (pairs_in (bucket_at buckets i) ≡ [])
      × (chained_pairs (bucket_at buckets i) ≡ [])
  unlisted_all [] killed emptied i = (refl, refl, refl)
  unlisted_all (bucket ∷ buckets) killed emptied zero =
      let none = emptied 0 bucket (omega arith) (killed 0 (omega arith)) in
      (unlisted_empty bucket none, none, unchained_empty bucket none)
  unlisted_all (bucket ∷ buckets) killed emptied (suc i) =
      unlisted_all buckets (λ k below. killed (suc k) (omega arith)) (λ k d below. emptied (suc k) d (omega arith)) i

  -- the old array is dropped
  pub ended_gone : (now : ArraysView K V) (minimum maximum ticket : ℕ) (current linked : List (BucketView K V))
      (tickets last none : TicketState) (success gone tested : Bool)
      → gone ≡ true → (IsTrue tested ↔ IsUnitKilled (killed_flags linked) (ticket / 2048)) → Ends tickets ticket success (IsTrue tested)
      (Ok gone) last
      → ◌≡◌ {A = ArraysView K V} (record { minimum = minimum; maximum = maximum; current = current; linked = linked; tickets = tickets })
      now
      → none ≡ first_tickets 0 → LosesNoUnit now.linked now.tickets
      → EndsRehash now ticket success (Ok true)
      (record { minimum = minimum; maximum = maximum; current = current; linked = []; tickets = none })
  ended_gone now minimum maximum ticket current linked tickets last none success gone tested is_gone means ends is first kept =
      let was : ArraysView K V = record { minimum = minimum; maximum = maximum; current = current; linked = linked; tickets = tickets } in
      let new : ArraysView K V = record { minimum = minimum; maximum = maximum; current = current; linked = []; tickets = none } in
      let here : Ends tickets ticket success (IsUnitKilled (killed_flags linked) (ticket / 2048)) (Ok true) last =
      ends_as tickets last ticket success _ _ (Ok true) means (subst (λ (b : Bool). Ends tickets ticket success (IsTrue tested) (Ok b) last)
      is_gone ends) in
      subst (λ (a : ArraysView K V). LosesNoUnit a.linked a.tickets → EndsRehash a ticket success (Ok true) new) is
      (λ (loses : LosesNoUnit was.linked was.tickets). ((last, here), all_killed_by was last ticket success loses here, rw first refl)) kept

  -- the law after a start, and after an end
  pub placed_start : (hash : K → ℕ) (old new : ArraysView K V) (answer : Option ℕ) → Starts old.tickets answer new.tickets
      → new ≡ record old { tickets = new.tickets } → ArePlaced hash old → ArePlaced hash new
  placed_start hash old new answer starts is law =
      rw is (record { homes = law.homes; rehashed = started old.linked old.tickets new.tickets answer starts law.rehashed })

  ended : (old : ArraysView K V) (after : TicketState) (ticket : ℕ) (success : Bool) → EndsBy old ticket success (Ok false) after
      → LosesNoUnit old.linked old.tickets → LosesNoUnit old.linked after
  ended old after ticket success (unit, is, done, closes, goes) kept = record {
    covered = covered_end (killed_flags old.linked) old.tickets after unit success closes
        (λ e. rw (unit_of ticket unit is) at (done e)) kept.covered;
    going_on = λ some. going_on_end (killed_flags old.linked) old.tickets after ticket success
        (IsUnitKilled (killed_flags old.linked) (ticket / 2048))
        (unit, is, done, closes, goes) kept.covered;
    emptied = kept.emptied;
  }

  gone : (hash : K → ℕ) (old : ArraysView K V) → ArePlaced hash old → ArePlaced hash (record old { linked = []; tickets = first_tickets 0 })
  gone hash old law = record {
    homes = record {
      current_home = law.homes.current_home;
      linked_home = λ i below. absurd (omega arith);
      alive = law.homes.alive;
      killed_empty = λ i below. absurd (omega arith);
      empty_targets = λ longer i j below. absurd (omega arith);
    };
    rehashed = loses_none;
  }

  pub placed_end : (hash : K → ℕ) (old new : ArraysView K V) (ticket : ℕ) (success : Bool) (answer : Result Bool TicketError)
      → EndsRehash old ticket success answer new → ArePlaced hash old → ArePlaced hash new
  placed_end hash old new ticket success (Ok true) ends law = rw ends.2 (gone hash old law)
  placed_end hash old new ticket success (Ok false) ends law =
      rw ends.1 (record { homes = law.homes; rehashed = ended old new.tickets ticket success ends.0 law.rehashed })
  placed_end hash old new ticket success (Err error) ends law =
      rw (ends.1, same_at_err old.tickets new.tickets ticket success _ error ends.0) (record { homes = law.homes; rehashed = law.rehashed })

-- what an end leaves
module _ {K V : Type 0} (old new : ArraysView K V) (ticket : ℕ) (success : Bool) where
  pub ended_entries : (answer : Result Bool TicketError) → LosesNoUnit old.linked old.tickets → EndsRehash old ticket success answer new
      → entries_of new ≡ entries_of old
  ended_entries (Ok true) kept ends = rw ends.2 (rw (no_pairs old.linked ends.1 kept.emptied) refl)
  ended_entries (Ok false) kept ends = rw ends.1 refl
  ended_entries (Err error) kept ends = rw ends.1 refl

  -- for the order: no bucket moves, and what is dropped lists nothing
  still_order : new ≡ record old { tickets = new.tickets } → CarriesOrder old new
  still_order same = rw same
      (carries_unmoved old (record old { tickets = new.tickets }) (λ i. (refl, refl, refl)) (stay_same old.current) (λ j. refl))

  pub ended_order : (answer : Result Bool TicketError) → LosesNoUnit old.linked old.tickets → EndsRehash old ticket success answer new
      → CarriesOrder old new
  ended_order (Ok true) kept ends = rw ends.2
      (carries_unmoved old (record old { linked = []; tickets = first_tickets 0 })
      (λ i. let none = unlisted_all old.linked ends.1 kept.emptied i in (sym none.0, sym none.1, sym none.2)) (stay_same old.current)
      (λ j. refl))
  ended_order (Ok false) kept ends = still_order ends.1
  ended_order (Err error) kept ends = still_order ends.1

  -- for the tombstones
  pub marks_ended : (answer : Result Bool TicketError) → EndsRehash old ticket success answer new
      → HasNoNewMark (tombstones_of old) (tombstones_of new)
  marks_ended (Ok true) ends =
      let front = marks_among old.current in
      let rest = marks_among old.linked in
      rw ends.2 (no_new-append front rest front [] (no_new-refl front) (no_new-none rest))
  marks_ended (Ok false) ends = rw ends.1 (no_new-refl (tombstones_of old))
  marks_ended (Err error) ends = rw ends.1 (no_new-refl (tombstones_of old))

  -- and for the current array
  pub others_ended : (answer : Result Bool TicketError) → EndsRehash old ticket success answer new
      → (new.minimum ≡ old.minimum) × (new.maximum ≡ old.maximum) × (new.current ≡ old.current)
  others_ended (Ok true) ends = rw ends.2 (refl, refl, refl)
  others_ended (Ok false) ends = rw ends.1 (refl, refl, refl)
  others_ended (Err error) ends = rw ends.1 (refl, refl, refl)

  -- no ticket is open without an old array
  pub not_open : (answer : Result Bool TicketError) → old.tickets.open_units ≡ [] → EndsRehash old ticket success answer new
      → answer ≡ Err NotOpen
  not_open (Err NotOpen) none ends = refl
  not_open (Err NotDone) none ends =
      absurd (omega (arith, (rw none at ends.0.0.2).1))
  not_open (Ok true) none ends = absurd (none_closed old.tickets ends.0.1.0 ends.0.0.open_units none ends.0.1.3.open_is)
  not_open (Ok false) none ends = absurd (none_closed old.tickets ends.0.0 new.tickets.open_units none ends.0.3.open_is)
