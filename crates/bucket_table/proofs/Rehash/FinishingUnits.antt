-- A unit of a rehash that nobody else works.
use Rattle.bucket_table.proofs.Words.{ArraysView, Bool, EndsRehash, Err, HandsOut, IsInRange, List, LosesNoUnit, None, Ok, Result, Some}
use Rattle.bucket_table.proofs.Words.{Starts, TicketState, NeedsMemory, WorksUnit, ℕ, [], ap, arith, cases_lt, false, inl, inr}
use Rattle.bucket_table.proofs.Words.{killed_flags, length, length_permutation, nil_from_length, refl, sym, true, true≢false, ◌*◌, ◌+◌, ◌/◌}
use Rattle.bucket_table.proofs.Words.{◌∙◌, ◌≡◌}
use Rattle.bucket_table.specs.Rehash.Covered.{IsCovered}
use Rattle.bucket_table.specs.declared.tickets.TicketError.{TicketError}
use Rattle.bucket_table.specs.Rehash.Finishing.{Finishes, units_left}
use Rattle.bucket_table.proofs.Rehash.Covering.{position_after}
use Rattle.bucket_table.proofs.Rehash.NeedingMemory.{unit_needs}
use Rattle.bucket_table.proofs.Rehash.UnitWork.{closed, ends_now, none_changed, not_refused}

module _ {K V : Type 0} (old worked last : ArraysView K V) (started : TicketState) (ticket : ℕ) (success : Bool)
    (h : HandsOut old.tickets ticket started)
    (w : WorksUnit (ticket / 2048) success (record old { tickets = started }) worked) (long : old.tickets.len ≡ length old.linked)
    (covered : IsCovered (killed_flags old.linked) old.tickets)
    (matches : success ≡ false
    → NeedsMemory (IsInRange (64 * (ticket / 2048)) (64 * (ticket / 2048) + 64)) (record old { tickets = started }) worked) where
  -- what the end of a unit leaves
  finished : (answer : Result Bool TicketError) → old.tickets.open_units ≡ [] → EndsRehash worked ticket success answer last
      → (last.tickets.open_units ≡ []) × (success ≡ true → units_left last + 1 ≡ units_left old)
      × (success ≡ false → (last.tickets.position ≡ old.tickets.position) × NeedsMemory (λ i. Unit {0}) old last)
  finished (Err error) none ends =
      absurd (not_refused old.tickets started ticket h success _ error last.tickets w.1 (ends_now old worked last started ticket success h w
      (Err error) last.tickets ends.0))
  finished (Ok true) none ends =
      let (closes, goes) = closed old.tickets started ticket h success _ true ends.0.0 (ends_now old worked last started ticket success h w
      (Ok true) ends.0.0 ends.0.1) in
      let e : success ≡ true = (goes.0 refl).0 in
      let over = (goes.0 refl).1.1 in
      let at = closes.position_is ∙ ap (λ (s : Bool). position_after s started.position old.tickets.position) e in
      let next = h.position_is in
      let left = h.is_left in
      let len1 = closes.same_len in
      let len2 = h.same_len in
      rw ends.2 (refl, λ ok. omega (arith, over, at, next, left, len1, len2, long), λ failed. absurd (true≢false (sym e ∙ failed)))
  finished (Ok false) none ends =
      let (closes, goes) = closed old.tickets started ticket h success _ false last.tickets
      (ends_now old worked last started ticket success h w (Ok false) last.tickets ends.0) in
      let was_none = ap (λ (us : List ℕ). length us) none in
      let left_open = length_permutation _ _ closes.open_is in
      let last_len = ap (λ (a : ArraysView K V). length a.linked) ends.1 ∙ w.0.killed.len in (
        nil_from_length last.tickets.open_units (omega (arith, length_permutation _ _ h.open_is, was_none, left_open)),
        λ ok.
            let at = closes.position_is ∙ ap (λ (s : Bool). position_after s started.position old.tickets.position) ok in
            omega (arith, at, h.position_is, h.is_left, last_len, long),
        λ failed.
            let back = closes.position_is ∙ ap (λ (s : Bool). position_after s started.position old.tickets.position) failed in (
              omega (arith, h.position_is, back),
              unit_needs old worked last started (ticket / 2048) (omega (arith, h.ticket_is)) none covered w.0
                  (ap (λ (a : ArraysView K V). a.linked) ends.1) (matches failed),
            ),
      )

  pub finishes : (answer : Result Bool TicketError) → EndsRehash worked ticket success answer last → old.tickets.open_units ≡ []
      → Finishes old (Some success) last
  finishes answer ends none =
      let done = finished answer none ends in
      record { none_open = done.0; none = tt; one = (omega (arith, h.is_left, long), done.1, done.2) }

-- an old array without an open ticket has a unit left
pub finishes_none : {K V : Type 0} (old new : ArraysView K V) → Starts old.tickets None new.tickets
    → new ≡ record old { tickets = new.tickets } → LosesNoUnit old.linked old.tickets → old.tickets.open_units ≡ [] → Finishes old None new
finishes_none {K} {V} old new starts is loses none =
    let same = none_changed old new starts is in
    record {
      none_open = ap (λ (a : ArraysView K V). a.tickets.open_units) same ∙ none;
      none = elim (cases_lt 0 (length old.linked)) [
        | inr gone ↦ (omega (arith, gone), same)
        | inl some ↦ elim starts.0 [
          | inl handed ↦ elim (loses.going_on some) [
            | inl left ↦ absurd (omega (arith, handed, left))
            | inr left ↦ let less = (rw none at left.1).1 in absurd (omega (arith, less))
          ]
          | inr full ↦ absurd (omega (arith, full, ap (λ (us : List ℕ). length us) none))
        ]
      ];
      one = tt;
    }
