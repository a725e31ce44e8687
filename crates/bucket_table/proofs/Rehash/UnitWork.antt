-- A unit whose ticket is issued, worked and ended.
use Rattle.bucket_table.proofs.Words.{ArraysView, Bool, Closes, Contains-permutation, Ends, EndsRehash, Err, HandsOut, HasWorkedUnits}
use Rattle.bucket_table.proofs.Words.{IsInRange, IsOver, IsPermutation, IsPermutation-refl, IsTrue, KeepsArrays, KeepsOpenTickets}
use Rattle.bucket_table.proofs.Words.{KillsOnly, List, LosesNoUnit, None, Ok, Option, Result, Some, SpendsSome, Starts, TicketState}
use Rattle.bucket_table.proofs.Words.{WorksUnit, WorksUnits, ℕ, ap, arith, bucket_at, cases_Bool, cases_eq, cond, entries_of, false, inl}
use Rattle.bucket_table.proofs.Words.{inr, killed_flags, length, length_permutation, no_new-trans, refl, sum_by-cons, sym, true, true≢false}
use Rattle.bucket_table.proofs.Words.{◌*◌, ◌+◌, ◌/◌, ◌<◌, ◌==◌, ◌↔◌, ◌∙◌, ◌∷◌, ◌≡◌, ◌≤◌}
use Rattle.bucket_table.specs.Rehash.Covered.{IsUnitKilled}
use Rattle.bucket_table.specs.declared.tickets.TicketError.{TicketError}
use Rattle.bucket_table.specs.declared.tickets.TicketError.TheVariants.{NotDone, NotOpen}
use Rattle.std.proofs.lemmas.List.Elements.{Contains-get_or}
use Rattle.std.proofs.lemmas.List.Sorted.{sum_by-IsPermutation}
use Rattle.std.specs.List.{count_by, sum_by}
use Rattle.bucket_table.specs.Rehash.Units.{IsAlive, NeedsNoMemory, UnitsNeedNoMemory}
use Rattle.bucket_table.proofs.Rehash.Covering.{position_after}
use Rattle.bucket_table.proofs.Moves.CarriedOrder.{order_at_other_tickets, order_both}
use Rattle.bucket_table.proofs.Rehash.Ending.{EndsBy, ended_entries, ended_order, marks_ended, others_ended}
use Rattle.bucket_table.proofs.Views.Killed.{get_or-killed_flags, length-killed_flags}

-- one unit is added to a bag and one is removed
bag_back : (unit other : ℕ) (was started is : List ℕ) → IsPermutation (other ∷ was) started → IsPermutation started (other ∷ is)
    → count_by (λ (u : ℕ). u == unit) is ≡ count_by (λ (u : ℕ). u == unit) was
bag_back unit other was started is joined left =
    let one : ℕ → ℕ = λ u. cond (u == unit) 1 0 in
    let b = sum_by-IsPermutation one started (other ∷ is) left in
    let c = sum_by-cons one other was in
    let d = sum_by-cons one other is in
    let e : sum_by one is ≡ sum_by one was = omega (arith, sum_by-IsPermutation one (other ∷ was) started joined, b, c, d) in
    e

module _ (before started : TicketState) (ticket : ℕ) (h : HandsOut before ticket started) where
  -- the unit that ends is the one that was issued
  pub closed : (success : Bool) (Done : Type 0) (gone : Bool) (after : TicketState) → Ends started ticket success Done (Ok gone) after
      → Closes started before.position success after × (IsTrue gone ↔ ((success ≡ true) × IsOver after))
  closed success Done gone after (unit, ticket_is, done, closes, goes) =
      let same : unit ≡ before.position = omega (arith, h.ticket_is, ticket_is) in
      (rw same at closes, goes)

  bag_closed : (success : Bool) (after : TicketState) → Closes started before.position success after → KeepsOpenTickets before after
  bag_closed success after closes = λ unit.
      bag_back unit before.position before.open_units started.open_units after.open_units h.open_is closes.open_is

  -- and it can be ended
  pub not_refused : (success : Bool) (Done : Type 0) (error : TicketError) (after : TicketState) → (success ≡ true → Done)
      → Ends started ticket success Done (Err error) after → ⊥
  not_refused success Done NotOpen after done ends =
      let there = Contains-permutation (before.position ∷ before.open_units) started.open_units before.position h.open_is
      (Contains-get_or (before.position ∷ before.open_units) 0 before.position (omega arith)) in
      ends.0 (before.position, h.ticket_is, there)
  not_refused success Done NotDone after done ends = ends.2 (done ends.1)

module _ {K V : Type 0} (old worked last : ArraysView K V) (started : TicketState) (ticket : ℕ) (success : Bool)
    (h : HandsOut old.tickets ticket started)
    (w : WorksUnit (ticket / 2048) success (record old { tickets = started }) worked) where
  abbrev Killed : Type 0
  Killed = IsUnitKilled (killed_flags worked.linked) (ticket / 2048)

  pub ends_now : (answer : Result Bool TicketError) (after : TicketState) → EndsBy worked ticket success answer after
      → Ends started ticket success Killed answer after
  ends_now answer after ends = rw w.0.tickets_are at ends

  bag_ended : (answer : Result Bool TicketError) → EndsRehash worked ticket success answer last → KeepsOpenTickets old.tickets last.tickets
  bag_ended (Err error) ends = absurd (not_refused old.tickets started ticket h success Killed error last.tickets w.1
      (ends_now (Err error) last.tickets ends.0))
  bag_ended (Ok true) ends =
      let (closes, goes) = closed old.tickets started ticket h success Killed true ends.0.0 (ends_now (Ok true) ends.0.0 ends.0.1) in
      λ unit. rw ends.2 (rw (goes.0 refl).1.0 at (bag_closed old.tickets started ticket h success ends.0.0 closes unit))
  bag_ended (Ok false) ends =
      let (closes, goes) = closed old.tickets started ticket h success Killed false last.tickets
      (ends_now (Ok false) last.tickets ends.0) in
      bag_closed old.tickets started ticket h success last.tickets closes

  -- the pairs and everything but the contents of the arrays stay through a unit
  pub unit_kept : (answer : Result Bool TicketError) → LosesNoUnit worked.linked worked.tickets
      → EndsRehash worked ticket success answer last → KeepsArrays old last
  unit_kept answer loses ends =
      let (minimum, maximum, current) = others_ended worked last ticket success answer ends in
      let kept = w.0.kept in
      let same = ended_entries worked last ticket success answer loses ends in
      record {
        keeps = record {
          pairs = rw same kept.keeps.pairs;
          marks = no_new-trans _ _ _ kept.keeps.marks (marks_ended worked last ticket success answer ends);
          minimum = minimum ∙ kept.keeps.minimum;
          maximum = maximum ∙ kept.keeps.maximum;
          open_tickets = bag_ended answer ends;
        };
        current_len = rw current kept.current_len;
        order = order_both old worked last kept.keeps.pairs (rw same (IsPermutation-refl (entries_of worked)))
            (order_at_other_tickets started old worked kept.order) (ended_order worked last ticket success answer loses ends);
      }

  -- an easy unit is worked, and the next ticket is that of the next unit; any other is issued again
  module _ (long : old.tickets.len ≡ length old.linked) (spends : SpendsSome old.linked worked.linked) (easy : UnitsNeedNoMemory 1 old
      → success ≡ true)
      (closes : Closes started old.tickets.position success last.tickets) (last_is : last ≡ record worked { tickets = last.tickets }) where
    abbrev position : ℕ
    position = old.tickets.position

    linked_is : last.linked ≡ worked.linked
    linked_is = ap (λ (a : ArraysView K V). a.linked) last_is

    moved : success ≡ true → last.tickets.position ≡ position + 1
    moved e = closes.position_is ∙ ap (λ (s : Bool). position_after s started.position position) e ∙ h.position_is

    stayed : success ≡ false → last.tickets.position ≡ position
    stayed e =
        let back = closes.position_is ∙ ap (λ (s : Bool). position_after s started.position position) e in
        omega (arith, h.position_is, back)

    dead : success ≡ true → (i : ℕ) → 64 * position ≤ i → i < 64 * (position + 1) → i < length last.linked
        → (bucket_at last.linked i).killed ≡ true
    dead e i low high within =
        let unit : ticket / 2048 ≡ position = omega (arith, h.ticket_is) in
        let inside : i < length worked.linked = rw linked_is at within in
        let flags = length-killed_flags worked.linked in
        rw linked_is (sym (get_or-killed_flags worked.linked i inside)
        ∙ w.1 e i (omega (arith, unit, low)) (omega (arith, unit, high)) (omega (arith, inside, flags)))

    between : (position ≤ last.tickets.position) × (last.tickets.position ≤ position + 1)
    between = elim (cases_Bool success) [
      | inl yes_it_is ↦ let m = moved yes_it_is in (omega (arith, m), omega (arith, m))
      | inr not_it ↦ let m = stayed not_it in (omega (arith, m), omega (arith, m))
    ]

    units_done : HasWorkedUnits 1 old last
    units_done = record {
      len = rw linked_is w.0.killed.len;
      spent = rw linked_is spends;
      open_len = omega (arith, length_permutation _ _ h.open_is, length_permutation _ _ closes.open_is);
      least = between.0;
      most = between.1;
      worked = λ count few easy_ones. elim (cases_eq count 1) [
        | inl one ↦
            record {
              position = inl (omega (arith, moved (easy (rw one at easy_ones)), one));
              killed = λ i low high within. dead (easy (rw one at easy_ones)) i low (omega (arith, high, one)) within;
            }
        | inr other ↦
            let none : count ≡ 0 = omega (arith, few, other) in
            record {
              position = inl (omega (arith, none, between.0));
              killed = λ i low high within. absurd (omega (arith, low, high, none));
            }
      ];
    }

  unit_stands : (answer : Result Bool TicketError) → old.tickets.len ≡ length old.linked → SpendsSome old.linked worked.linked
      → (UnitsNeedNoMemory 1 old → success ≡ true) → EndsRehash worked ticket success answer last → 0 < length last.linked
      → HasWorkedUnits 1 old last
  unit_stands (Err error) long spends easy ends =
      absurd (not_refused old.tickets started ticket h success Killed error last.tickets w.1 (ends_now (Err error) last.tickets ends.0))
  unit_stands (Ok true) long spends easy ends = λ some. let none = ap (λ (a : ArraysView K V). length a.linked) ends.2 in absurd
      (omega (arith, some, none))
  unit_stands (Ok false) long spends easy ends = λ some.
      let (closes, goes) = closed old.tickets started ticket h success Killed false last.tickets
      (ends_now (Ok false) last.tickets ends.0) in
      units_done long spends easy closes ends.1

  -- a bucket that isn't killed still isn't when the ticket ends, and then the array isn't dropped
  alive_ended : (answer : Result Bool TicketError) (i : ℕ) → EndsRehash worked ticket success answer last
      → IsAlive worked.linked i → IsAlive last.linked i
  alive_ended (Err error) i ends alive = rw ends.1 alive
  alive_ended (Ok false) i ends alive = rw ends.1 alive
  alive_ended (Ok true) i ends alive =
      let all = ends.1 i (omega (arith, alive.0, length-killed_flags worked.linked)) in
      absurd (true≢false (sym all ∙ get_or-killed_flags worked.linked i alive.0 ∙ alive.1))

  pub unit_runs : (answer : Result Bool TicketError) → old.tickets.len ≡ length old.linked → SpendsSome old.linked worked.linked
      → (UnitsNeedNoMemory 1 old → success ≡ true)
      → KillsOnly (IsInRange (64 * (ticket / 2048)) (64 * (ticket / 2048) + 64)) old.linked worked.linked
      → EndsRehash worked ticket success answer last → WorksUnits 1 (λ index. ⊥) old last
  unit_runs answer long spends easy only ends =
      let unit : ticket / 2048 ≡ old.tickets.position = omega (arith, h.ticket_is) in
      record {
        stands = unit_stands answer long spends easy ends;
        only = λ i alive. elim (only i alive) [
          | inl one ↦ inl (inl (omega (arith, unit, one.0), omega (arith, unit, one.1)))
          | inr still ↦ inr (alive_ended answer i ends still)
        ];
      }

module _ {K V : Type 0} where
  -- an easy unit by its ticket
  pub easy_handed : (old : ArraysView K V) (started : TicketState) (ticket : ℕ) → HandsOut old.tickets ticket started
      → UnitsNeedNoMemory 1 old
      → NeedsNoMemory (64 * (ticket / 2048)) (64 * (ticket / 2048) + 64) (record old { tickets = started })
  easy_handed old started ticket h needs =
      let unit : ticket / 2048 ≡ old.tickets.position = omega (arith, h.ticket_is) in
      record {
        no_shorter = needs.easy.no_shorter;
        few = λ i low high. needs.easy.few i (omega (arith, unit, low))
            (omega (arith, unit, high));
      }

  pub none_changed : (old new : ArraysView K V) → Starts old.tickets None new.tickets → new ≡ record old { tickets = new.tickets }
      → new ≡ old
  none_changed old new starts is = is ∙ ap (λ (t : TicketState). record old { tickets = t }) starts.1

  -- without an old array none is issued
  pub none_handed : (old : ArraysView K V) (ticket : ℕ) (after : TicketState) → old.tickets.len ≡ length old.linked → length old.linked ≡ 0
      → HandsOut old.tickets ticket after → ⊥
  none_handed old ticket after long none h = let left = h.is_left in absurd (omega (arith, left, long, none))

  pub none_start : (old : ArraysView K V) (answer : Option ℕ) (after : TicketState) → old.tickets.len ≡ length old.linked
      → length old.linked ≡ 0
      → Starts old.tickets answer after → answer ≡ None
  none_start old None after long none starts = refl
  none_start old (Some ticket) after long none starts = absurd (none_handed old ticket after long none starts)
