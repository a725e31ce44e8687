-- All pairs in one array of another length: what the moves on the way leave.
use Rattle.bucket_table.proofs.Words.{AreArrays, ArePlaced, ArraysView, Bool, Err, IsEquivalence, IsLengthFor, KeepsArrays}
use Rattle.bucket_table.proofs.Words.{KeepsPairs, List, Ok, OnOk, Result, TicketState, NeedsMemory, ℕ, [], ap, arith, first_tickets, inl}
use Rattle.bucket_table.proofs.Words.{inr, length, refl, subst, sym, ◌/◌, ◌∙◌, ◌≡◌}
use Rattle.std.proofs.Common.{max}
use Rattle.std.specs.Prelude.{IsErr, OnErr}
use Rattle.bucket_slots.proofs.ArrayNumbers.{least_is_one}
use Rattle.bucket_table.specs.Map.MapState.{state_of}
use Rattle.bucket_table.specs.Rehash.State.{IsTicketState}
use Rattle.bucket_table.specs.Resize.Remaking.{IsSettledAt, RehashesTo, unopened}
use Rattle.bucket_table.specs.Resize.Resizing.{IsPushed}
use Rattle.bucket_table.specs.Map.Counting.{IsCountedMap}
use Rattle.bucket_table.proofs.Map.Counted.{map_kept}
use Rattle.bucket_table.proofs.Map.MapKept.{state_found}
use Rattle.bucket_table.proofs.Moves.CarriedOrder.{order_at_other_tickets}
use Rattle.bucket_table.proofs.Resize.Following.{pushed_keeps, rehash_begun}
use Rattle.bucket_table.proofs.Views.Keeping.{keeps_both}
use Rattle.bucket_table.proofs.Views.Laws.{none_open}

-- nothing has to be shown if the call fails
pub refused : {A E : Type 0} (P : Type 0) (answer : Result A E) → IsErr answer → OnOk answer P
refused P (Ok x) is = absurd cc
refused P (Err e) is = tt

-- what always holds also holds after an error
pub at_error : {A E : Type 0} (P : Type 0) (answer : Result A E) → P → OnErr answer P
at_error P (Ok x) is = tt
at_error P (Err e) is = is

-- there is one length for a capacity
pub len_is_one : (capacity len other : ℕ) → IsLengthFor capacity len → IsLengthFor capacity other → len ≡ other
len_is_one capacity len other (power, least, is) (again, again_least, again_is) =
    is ∙ ap (λ (n : ℕ). max 64 n / 32) (least_is_one _ power again least again_least) ∙ sym again_is

same_tickets : (position : ℕ) (units : List ℕ) (len : ℕ) → position ≡ 0 → units ≡ [] → len ≡ 0
    → record { position = position; open_units = units; len = len } ≡ first_tickets 0
same_tickets position units len at none empty = rw (at, none, empty) refl

-- the tickets of no bucket
pub tickets_none : (tickets : TicketState) → IsTicketState tickets → tickets.len ≡ 0 → tickets ≡ first_tickets 0
tickets_none tickets is none =
    let at = is.position_in_range in
    same_tickets tickets.position tickets.open_units tickets.len (omega (arith, at, none)) (none_open tickets is none) none

module _ {K V : Type 0} where
  -- if there is no old array, no ticket is open
  pub unopened_alone : (arrays : ArraysView K V) → IsTicketState arrays.tickets → arrays.tickets.len ≡ length arrays.linked
      → length arrays.linked ≡ 0 → unopened arrays ≡ arrays
  unopened_alone arrays is same none =
      ap (λ (t : TicketState). record arrays { tickets = t })
      (ap (λ (n : ℕ). first_tickets n) none ∙ sym (tickets_none arrays.tickets is (same ∙ none)))

  -- the units of an old array may be worked again from the first on: killed buckets have no pair left
  pub unopened_placed : (hash : K → ℕ) (arrays : ArraysView K V) → ArePlaced hash arrays → ArePlaced hash (unopened arrays)
  unopened_placed hash arrays law = record {
    homes = law.homes;
    rehashed = rehash_begun arrays.linked law.rehashed.emptied;
  }

  -- no unit of the array that has just become the old one was issued
  pub pushed_unopened : (capacity : ℕ) (old new : ArraysView K V) → IsPushed capacity old new → new.tickets.open_units ≡ []
  pushed_unopened capacity old new is = ap (λ (a : ArraysView K V). a.tickets.open_units) is.new_is

  -- an old bucket needed memory in the rehash that was under way
  pub begun_wants : {A E : Type 0} (old begun second : ArraysView K V) → begun ≡ unopened old → (answer : Result A E) (error : E)
      → OnErr answer (NeedsMemory (λ i. Unit {0}) begun second) → answer ≡ Err error → NeedsMemory (λ i. Unit {0}) (unopened old) second
  begun_wants {A} {E} old begun second is answer error matches was =
      subst (λ (a : ArraysView K V). NeedsMemory (λ i. Unit {0}) a second) is
      (subst (λ (r : Result A E). OnErr r (NeedsMemory (λ i. Unit {0}) begun second)) was matches)

  pub begun_keeps : (old begun second : ArraysView K V) → begun ≡ unopened old → KeepsArrays begun second
      → KeepsArrays (unopened old) second
  begun_keeps old begun second is kept = subst (λ (a : ArraysView K V). KeepsArrays a second) is kept

-- the rehash that is under way is finished, if no ticket of it is open
module _ {K V A E : Type 0} (capacity : ℕ) (old begun second : ArraysView K V) (is : begun ≡ unopened old)
    (tickets : IsTicketState old.tickets) (law : AreArrays old) (answer : Result A E) (done : A)
    (alone : length begun.linked ≡ 0 → (answer ≡ Ok done) × (second ≡ begun)) where
  nothing_on : IsSettledAt capacity old → (answer ≡ Ok done) × (second ≡ begun)
  nothing_on there = alone (ap (λ (a : ArraysView K V). length a.linked) is ∙ there.alone)

  pub still : IsSettledAt capacity old → second ≡ old
  still there = (nothing_on there).1 ∙ is ∙ unopened_alone old tickets law.tickets_len there.alone

  pub not_refused : (error : E) → answer ≡ Err error → IsSettledAt capacity old → ⊥
  not_refused error was there = let same : Ok done ≡ Err error = sym (nothing_on there).0 ∙ was in absurd cc

module _ {K V : Type 0} (capacity : ℕ) (old second : ArraysView K V) (first : KeepsArrays (unopened old) second) where
  -- another length is needed
  pub elsewhere : (len wanted : ℕ) → len ≡ length second.current → IsLengthFor capacity wanted → (len ≡ wanted → ⊥)
      → IsLengthFor capacity (length old.current) → ⊥
  elsewhere len wanted len_is for apart there = apart (len_is ∙ first.current_len ∙ len_is_one capacity _ wanted there for)

module _ {K V E : Type 0} (capacity : ℕ) (old second : ArraysView K V) (first : KeepsArrays (unopened old) second) where
  -- the rehash that was under way has ended, or failed
  pub stands : (answer : Result (Unit {0}) E) → second.tickets.open_units ≡ [] → OnOk answer (IsSettledAt capacity second)
      → (IsSettledAt capacity old → (answer ≡ Ok tt) × (second ≡ old))
      → OnErr answer (IsLengthFor capacity (length old.current) → NeedsMemory (λ i. Unit {0}) (unopened old) second)
      → RehashesTo capacity old answer second
  stands answer none settled there wanted = record {
    kept = first.keeps;
    none_open = none;
    order = record { between = second; first = order_at_other_tickets _ old second first.order; again = inl refl };
    current_len = inl first.current_len;
    settled = settled;
    there = there;
    refused = wanted;
  }

  -- an array was made, and all pairs have moved there, or a move failed
  pub moved_all : (answer : Result (Unit {0}) E) (pushed third : ArraysView K V) → IsPushed capacity second pushed
      → KeepsArrays pushed third → third.tickets.open_units ≡ [] → OnOk answer (length third.linked ≡ 0)
      → (IsLengthFor capacity (length old.current) → ⊥) → RehashesTo capacity old answer third
  moved_all answer pushed third is then none gone apart = record {
    kept = keeps_both _ second third first.keeps (keeps_both second pushed third (pushed_keeps capacity second pushed is) then.keeps);
    none_open = none;
    order = record { between = second; first = order_at_other_tickets _ old second first.order; again = inr (pushed, is, then.order) };
    current_len = inr length_is;
    settled = settled answer gone;
    there = λ there. absurd (apart there.len);
    refused = at_error _ answer (λ len. absurd (apart len));
  }
    where
      length_is : IsLengthFor capacity (length third.current)
      length_is = rw (then.current_len, ap (λ (a : ArraysView K V). length a.current) is.new_is) is.fresh_is.len

      settled : (answer : Result (Unit {0}) E) → OnOk answer (length third.linked ≡ 0) → OnOk answer (IsSettledAt capacity third)
      settled (Ok done) gone = record { alone = gone; len = length_is }
      settled (Err refused) gone = tt

module _ {K V E : Type 0} (capacity : ℕ) (old : ArraysView K V) (answer : Result (Unit {0}) E) (new : ArraysView K V)
    (done : RehashesTo capacity old answer new) where
  -- the arrays are still one map
  pub counted_remade : (eq : K → K → Bool) → IsEquivalence eq → (hash : K → ℕ) {count : ℕ} → IsCountedMap eq hash old count
      → ArePlaced hash new → IsCountedMap eq hash new count
  counted_remade eq laws hash was placed = map_kept eq laws hash (unopened old) new (record {
    one_map = record { distinct = was.one_map.distinct; placed = unopened_placed hash old was.one_map.placed };
    counted = was.counted;
  }) done.kept placed

  pub map_remade : {H : Type 0} (kind : ℕ) (hasher : H)
      → KeepsPairs (state_of kind (record { hasher = hasher; arrays = old })) (state_of kind (record { hasher = hasher; arrays = new }))
  map_remade kind hasher = state_found kind hasher (unopened old) new done.kept
