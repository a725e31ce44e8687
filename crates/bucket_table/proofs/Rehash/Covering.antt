-- Starting, working and ending keep every unit covered.
use Rattle.bucket_table.proofs.Words.{All, All-cons, All-head, All-permutation, All-tail, Bool, Closes, Contains, Contains-append_cases}
use Rattle.bucket_table.proofs.Words.{Contains-append_left, Contains-append_right, Contains-permutation, Ends, HandsOut, IsOver, List}
use Rattle.bucket_table.proofs.Words.{TicketState, ℕ, [], arith, cases_eq, cases_lt, div-lt_iff_lt-mul, false, false≢true, get_or}
use Rattle.bucket_table.proofs.Words.{get_or-set_other, if◌then◌else◌, inl, inr, length, length-set, min, refl, set, subst, sym, true}
use Rattle.bucket_table.proofs.Words.{⊎_elim, ◌*◌, ◌/◌, ◌<◌, ◌∙◌, ◌∷◌, ◌≡◌, ◌≢◌, ◌≤◌, ◌⊎◌}
use Rattle.bucket_table.specs.Rehash.Covered.{AreAllKilled, IsCovered, IsUnitKilled}
use Rattle.std.proofs.Common.{get_or-set_same}
use Rattle.std.proofs.lemmas.List.Elements.{Contains-get_or, Contains-push_cases}
use Rattle.std.specs.Prelude.{Ok}

-- some unit is open or left to issue
abbrev pub IsGoingOn : TicketState → Type 0
IsGoingOn state = (64 * state.position < state.len) ⊎ ((unit : ℕ) × Contains state.open_units unit)

has_head : (x : ℕ) (xs : List ℕ) → Contains (x ∷ xs) x
has_head x xs = Contains-get_or (x ∷ xs) 0 x (omega arith)

head_or_tail : (x y : ℕ) (xs : List ℕ) → Contains (x ∷ xs) y → (x ≡ y) ⊎ Contains xs y
head_or_tail x y xs there = ⊎_elim (λ (h : Contains (x ∷ []) y). ⊎_elim (λ (n : Contains [] y). inr
    (Contains-append_left [] xs y n)) (λ (e : x ≡ y). inl e) (Contains-push_cases [] x y h)) (λ (h : Contains xs y). inr h)
    (Contains-append_cases (x ∷ []) xs y there)

pub covered_start : (killed : List Bool) (before after : TicketState) (ticket : ℕ)
    → HandsOut before ticket after → IsCovered killed before → IsCovered killed after
covered_start killed before after ticket h covered =
    let joined : List ℕ = before.position ∷ before.open_units in
    record {
      same_len = covered.same_len ∙ sym h.same_len;
      units_in_range = subst (λ (n : ℕ). All (λ unit. 64 * unit < n) after.open_units) (sym h.same_len)
          (All-permutation (λ unit. 64 * unit < before.len) joined after.open_units h.open_is
          (All-cons (λ unit. 64 * unit < before.len) before.position before.open_units h.is_left
          covered.units_in_range));
      done_or_open = λ unit below. ⊎_elim (λ (less : unit < before.position). ⊎_elim (λ (done : IsUnitKilled killed unit). inl done)
          (λ (there : Contains before.open_units unit). inr (Contains-permutation joined after.open_units unit h.open_is
          (Contains-append_right (before.position ∷ []) before.open_units unit there))) (covered.done_or_open unit less))
          (λ (le : before.position ≤ unit).
          let next = h.position_is in
          let here : before.position ≡ unit = omega arith in
          inr (Contains-permutation joined after.open_units unit h.open_is
          (subst (λ (u : ℕ). Contains joined u) here (has_head before.position before.open_units)))) (cases_lt unit before.position);
    }

pub going_on_start : (before after : TicketState) (ticket : ℕ) → HandsOut before ticket after → IsGoingOn after
going_on_start before after ticket h = inr (
  before.position,
  Contains-permutation (before.position ∷ before.open_units) after.open_units
      before.position h.open_is (has_head before.position before.open_units),
)

pub covered_work : (killed : List Bool) (i : ℕ) (state : TicketState) → i < length killed
    → IsCovered killed state → IsCovered (set killed i true) state
covered_work killed i state below covered = record {
  same_len = length-set killed i true ∙ covered.same_len;
  units_in_range = covered.units_in_range;
  done_or_open = λ unit less. ⊎_elim (λ (done : IsUnitKilled killed unit). inl (λ k low high inside.
      let inside_too : k < length killed = subst (λ (n : ℕ). k < n) (length-set killed i true)
      inside in
      ⊎_elim (λ (e : k ≡ i). subst (λ (j : ℕ). get_or (set killed i true) j false ≡ true) (sym e)
      (get_or-set_same killed i true false below)) (λ (ne : k ≢ i). get_or-set_other killed i k true false ne ∙ done k low high inside_too)
      (cases_eq k i))) (λ (there : Contains state.open_units unit). inr there) (covered.done_or_open unit less);
}

-- the position after the ticket of a unit ended
abbrev pub position_after : Bool → ℕ → ℕ → ℕ
position_after success position unit = if success then position else min position unit

-- the position never grows by an end, and passes no unit that failed
position_end : (success : Bool) (position unit : ℕ) → position_after success position unit ≤ position
position_end true position unit = omega arith
position_end false position unit = omega arith

covered_unit : (killed : List Bool) (success : Bool) (position unit : ℕ)
    → (success ≡ true → IsUnitKilled killed unit) → unit < position_after success position unit → IsUnitKilled killed unit
covered_unit killed true position unit done less = done refl
covered_unit killed false position unit done less = absurd (omega arith)

pub covered_end : (killed : List Bool) (before after : TicketState) (unit : ℕ) (success : Bool)
    → Closes before unit success after → (success ≡ true → IsUnitKilled killed unit) → IsCovered killed before → IsCovered killed after
covered_end killed before after unit success h done covered =
    let joined : List ℕ = unit ∷ after.open_units in
    record {
      same_len = covered.same_len ∙ sym h.same_len;
      units_in_range = subst (λ (n : ℕ). All (λ u. 64 * u < n) after.open_units) (sym h.same_len)
          (All-tail (λ u. 64 * u < before.len) unit after.open_units
          (All-permutation (λ u. 64 * u < before.len) before.open_units joined h.open_is
          covered.units_in_range));
      done_or_open = λ u below.
          let le = position_end success before.position unit in
          ⊎_elim (λ (killed_already : IsUnitKilled killed u). inl killed_already) (λ (there : Contains before.open_units u). ⊎_elim
          (λ (e : unit ≡ u). inl (subst (λ (v : ℕ). IsUnitKilled killed v) e (covered_unit killed success before.position unit done
          (subst (λ (p : ℕ). unit < p) h.position_is (subst (λ (v : ℕ). v < after.position) (sym e) below)))))
          (λ (still : Contains after.open_units u). inr still)
          (head_or_tail unit u after.open_units (Contains-permutation before.open_units joined u h.open_is there)))
          (covered.done_or_open u (omega arith));
    }

unit_in_range : (killed : List Bool) (before after : TicketState) (unit : ℕ) (success : Bool)
    → Closes before unit success after → IsCovered killed before → 64 * unit < before.len
unit_in_range killed before after unit success h covered = All-head (λ u. 64 * u < before.len) unit after.open_units
    (All-permutation (λ u. 64 * u < before.len) before.open_units (unit ∷ after.open_units)
    h.open_is covered.units_in_range)

some_open : (xs : List ℕ) → (xs ≡ [] → ⊥) → (unit : ℕ) × Contains xs unit
some_open [] some = absurd (some refl)
some_open (x ∷ xs) some = (x, has_head x xs)

not_over : (state : TicketState) → (IsOver state → ⊥) → IsGoingOn state
not_over state going = ⊎_elim (λ (left : 64 * state.position < state.len). inl left) (λ (handed : state.len ≤ 64 * state.position). inr
    (some_open state.open_units (λ e. going (e, handed)))) (cases_lt (64 * state.position) state.len)

pub going_on_end : (killed : List Bool) (before after : TicketState) (ticket : ℕ) (success : Bool)
    (Done : Type 0) → Ends before ticket success Done (Ok false) after → IsCovered killed before → IsGoingOn after
going_on_end killed before after ticket true Done (unit, is, done, h, goes) covered = not_over after
    (λ over. false≢true (goes.1 (refl, over)))
going_on_end killed before after ticket false Done (unit, is, done, h, goes) covered =
    let below = unit_in_range killed before after unit false h covered in
    let len = h.same_len in
    let position = h.position_is in
    inl (omega arith)

-- if no unit is left, each old bucket is killed
pub all_killed : (killed : List Bool) (state : TicketState) → IsCovered killed state → IsOver state → AreAllKilled killed
all_killed killed state covered (none_open, handed) = λ i inside.
    let same = covered.same_len in
    let below : i / 64 < state.position = (div-lt_iff_lt-mul {k = 64} (omega arith)).1 (omega arith) in
    ⊎_elim (λ (done : IsUnitKilled killed (i / 64)). done i (omega arith) (omega arith) inside)
    (λ (there : Contains state.open_units (i / 64)). let nothing : there.0 < 0 = subst
    (λ (xs : List ℕ). there.0 < length xs) none_open there.1 in absurd (omega arith)) (covered.done_or_open (i / 64) below)
