-- Whether a slot of a row is live, by the first live slot from its position on.
use Rattle.bucket_slots.proofs.Words.{List, None, Option, Some, Slot, ap, arith, cases_lt, drop, false, free, get_or-drop, get_or_past, inl}
use Rattle.bucket_slots.proofs.Words.{inr, is_free, is_live, length, live, live_pair, marked, next_in, option_map, pair_of, position}
use Rattle.bucket_slots.proofs.Words.{position-Some, refl}
use Rattle.bucket_slots.proofs.Words.{slot_at, sym, true, unwrap_or, ℕ, ◌+◌, ◌∙◌, ◌≡◌, ◌≢◌}
use Rattle.bucket_slots.proofs.FirstPlaces.{live_occupied}
use Rattle.bucket_slots.proofs.Positions.{position-None}

module _ {K V : Type 0} (row : List (Slot K V)) (pos : ℕ) where
  first_is : slot_at (drop pos row) 0 ≡ slot_at row pos
  first_is =
      let here : pos + 0 ≡ pos = omega arith in
      get_or-drop pos row 0 free ∙ ap (slot_at row) here

  live_from : (found : Option ℕ) → position is_live (drop pos row) ≡ found → option_map (λ i. pos + i) found ≡ Some pos
      → is_live (slot_at row pos) ≡ true
  live_from None is here = cc
  live_from (Some i) is here =
      let first : i ≡ 0 = omega (arith, ap (λ (place : Option ℕ). unwrap_or place 0) here) in
      ap is_live (sym first_is) ∙ ap (λ (at : ℕ). is_live (slot_at (drop pos row) at)) (sym first)
      ∙ (position-Some is_live (drop pos row) i free is).1

  dead_from : (found : Option ℕ) → position is_live (drop pos row) ≡ found → option_map (λ i. pos + i) found ≢ Some pos
      → is_live (slot_at row pos) ≡ false
  dead_from None is other = elim (cases_lt 0 (length (drop pos row))) [
    | inl some ↦ ap is_live (sym first_is) ∙ position-None is_live (drop pos row) 0 free is some
    | inr none ↦ ap is_live (sym first_is ∙ get_or_past (drop pos row) 0 free none)
  ]
  dead_from (Some i) is other = elim (cases_lt 0 i) [
    | inl later ↦ ap is_live (sym first_is) ∙ (position-Some is_live (drop pos row) i free is).2 0 later
    | inr first ↦
        let here : pos + i ≡ pos = omega (arith, first) in
        absurd (other (ap Some here))
  ]

  -- if it is the first, its pair is the live one
  pub next_is_live : next_in pos row ≡ Some pos
      → (is_free (slot_at row pos) ≡ false) × (live_pair (slot_at row pos) ≡ pair_of (slot_at row pos))
  next_is_live here = live_occupied (slot_at row pos) (live_from _ refl here)

  no_pair : (slot : Slot K V) → is_live slot ≡ false → live_pair slot ≡ None
  no_pair free dead = refl
  no_pair (live pair byte) dead = cc
  no_pair (marked pair byte) dead = refl

  -- if it isn't, it has no live pair
  pub other_is_not : next_in pos row ≢ Some pos → None ≡ live_pair (slot_at row pos)
  other_is_not other = sym (no_pair (slot_at row pos) (dead_from _ refl other))
