-- What one start and one end of a ticket do to the list of open units.
use Rattle.bucket_table.proofs.Words.{Bool, Closes, Contains, Ends, HandsOut, IsOver, IsPermutation, IsPermutation-sym, List, TicketState}
use Rattle.bucket_table.proofs.Words.{ℕ, [], ap, false, false≢true, get_or, length, subst, sym, true, ◌*◌, ◌++◌, ◌+◌, ◌<◌, ◌∙◌, ◌∷◌, ◌≡◌}
use Rattle.std.proofs.lemmas.List.{get_or_read}
use Rattle.std.proofs.lemmas.List.Sorted.{IsPermutation-swap_remove, IsPermutation-to_front}
use Rattle.std.specs.List.{swap_remove}
use Rattle.std.specs.Prelude.{IsTrue, Ok, slice_index, ◌↔◌}
use Rattle.bucket_table.specs.Rehash.State.{IsOpen}
use Rattle.bucket_table.proofs.Rehash.Covering.{position_after}

pub handed_out : (seen before after : TicketState) (ticket : ℕ) → seen ≡ before
    → 64 * seen.position < seen.len → length seen.open_units < 2047 → ticket ≡ 2048 * seen.position
    → after.position ≡ seen.position + 1 → after.open_units ≡ seen.open_units ++ seen.position ∷ []
    → after.len ≡ seen.len → HandsOut before ticket after
handed_out seen before after ticket known left room is next pushed same = subst
    (λ (s : TicketState). HandsOut s ticket after) known (record {
      is_left = left;
      has_room = room;
      ticket_is = is;
      position_is = next;
      open_is = IsPermutation-sym _ _ (subst (λ (xs : List ℕ). IsPermutation xs
          (seen.position ∷ seen.open_units)) (sym pushed) (IsPermutation-to_front seen.open_units
          seen.position));
      same_len = same;
    })

pub closed : (before after : TicketState) (place unit : ℕ) (success : Bool)
    → place < length before.open_units → unit ≡ get_or before.open_units place unit
    → after.open_units ≡ swap_remove before.open_units place unit
    → after.position ≡ position_after success before.position unit → after.len ≡ before.len → Closes before unit success after
closed before after place unit success below is taken moved same = record {
  open_is = subst (λ (xs : List ℕ). IsPermutation before.open_units (unit ∷ xs)) (sym taken)
      (IsPermutation-swap_remove before.open_units place unit below is);
  position_is = moved;
  same_len = same;
}

pub ended : (seen before after : TicketState) (items : List ℕ) (place unit ticket : ℕ)
    (success : Bool) (Done : Type 0) (gone : Bool) → seen ≡ before → items ≡ seen.open_units
    → place < length items → ticket ≡ 2048 * slice_index items place
    → unit ≡ get_or seen.open_units place unit → after.open_units ≡ swap_remove seen.open_units
    place unit → after.position ≡ position_after success seen.position unit → after.len ≡ seen.len
    → (success ≡ true → Done) → (IsTrue gone ↔ ((success ≡ true) × IsOver after)) → Ends before ticket success Done (Ok gone) after
ended seen before after items place unit ticket success Done gone known_state same_items below ticket_is is taken moved same_len needs
    goes =
    let inside : place < length seen.open_units = subst (λ (xs : List ℕ). place < length xs)
    same_items below in
    let known : ticket ≡ 2048 * get_or seen.open_units place 0 = subst
    (λ (xs : List ℕ). ticket ≡ 2048 * get_or xs place 0) same_items ticket_is in
    let read : unit ≡ get_or seen.open_units place 0 = get_or_read seen.open_units place unit inside
    is 0 in
    subst (λ (s : TicketState). Ends s ticket success Done (Ok gone) after) known_state (
      unit,
      known ∙ ap (λ (u : ℕ). 2048 * u) (sym read),
      needs,
      closed seen after place unit success inside is taken moved same_len,
      goes,
    )

pub not_open : (seen state : TicketState) (items : List ℕ) (ticket : ℕ) → seen ≡ state
    → items ≡ seen.open_units → ((unit : ℕ) → ticket ≡ 2048 * unit → Contains items unit → ⊥) → IsOpen state ticket → ⊥
not_open seen state items ticket known same absent (unit, is, there) = absent unit is
    (subst (λ (xs : List ℕ). Contains xs unit) (ap (λ (s : TicketState). s.open_units) (sym known) ∙ sym same) there)

-- what an end without success must show of its result
pub never_over : (success : Bool) (P : Type 0) → success ≡ false → IsTrue false ↔ ((success ≡ true) × P)
never_over success P is = (
  λ h. absurd (false≢true h),
  λ (yes_it_is, _). absurd (false≢true (sym is ∙ yes_it_is)),
)
