-- The live slots of a row that a loop over their mask has yet to visit.
use Rattle.bucket_slots.proofs.Words.{Bor, CallsEach, IsLowest, IsMaskOf, List, SetsBit, Slot, Some, [], ap, arith}
use Rattle.bucket_slots.proofs.Words.{bit_at-zero}
use Rattle.bucket_slots.proofs.Words.{cases_eq, cases_lt, drop, drop-drop, drop_all, drop_more, false, free}
use Rattle.bucket_slots.proofs.Words.{get_or-drop, inl, inr}
use Rattle.bucket_slots.proofs.Words.{is_free, is_live, length, live_pair, live_pairs, pair_of, refl, slot_at, sym}
use Rattle.bucket_slots.proofs.Words.{true, ℕ}
use Rattle.bucket_slots.proofs.Words.{◌+◌, ◌-◌, ◌<◌, ◌∙◌, ◌∷◌, ◌≡◌, ◌≤◌}
use Rattle.bucket_slots.specs.OwnWalks.{NamesFrom}
use Rattle.bucket_slots.proofs.CallingEach.{IsAmid, done, one_more}
use Rattle.bucket_slots.proofs.FirstPlaces.{live_occupied}
use Rattle.bucket_slots.proofs.Masks.{bit-mask, bit_is, bit_is_not, within}
use Rattle.bucket_slots.proofs.NextSlots.{live_pairs-live, live_pairs-skip}
use Rattle.bucket_slots.proofs.PairsAfter.{live_from_pair}

module _ {K V : Type 0} where
  pub names_all : (slots : List (Slot K V)) (left : ℕ) → IsMaskOf is_live slots left → NamesFrom slots left 0
  names_all slots left mask = record {
    ahead = λ i after. bit-mask is_live slots left mask i free refl;
    behind = λ i before. absurd (omega arith);
  }

  -- the lowest bit isn't one of those after it
  pub lowest_ahead : (slots : List (Slot K V)) (left from pos : ℕ) → NamesFrom slots left from → IsLowest left pos → from ≤ pos
  lowest_ahead slots left from pos names low = elim (cases_lt pos from) [
    | inl before ↦ absurd (omega (arith, low.set, names.behind pos before))
    | inr after ↦ after
  ]

  -- without it, the bits are those after it
  pub names_next : (slots : List (Slot K V)) (left from pos after : ℕ) → NamesFrom slots left from → IsLowest left pos
      → SetsBit left pos 0 after → NamesFrom slots after (pos + 1)
  names_next slots left from pos after names low clears =
      let past = lowest_ahead slots left from pos names low in
      record {
        ahead = λ i later. clears.others i (λ e. absurd (omega (arith, e))) ∙ names.ahead i (omega arith);
        behind = λ i before. elim (cases_eq i pos) [
          | inl same ↦ rw same clears.same
          | inr other ↦ clears.others i other ∙ low.lower i (omega arith)
        ];
      }

  -- none of the slots between is live
  none_between : (slots : List (Slot K V)) (left from pos : ℕ) → NamesFrom slots left from → IsLowest left pos → (k : ℕ) → k < pos - from
      → is_live (slot_at (drop from slots) k) ≡ false
  none_between slots left from pos names low k less =
      rw (get_or-drop from slots k free)
      (bit_is_not (is_live (slot_at slots (from + k))) (sym (names.ahead (from + k) (omega arith)) ∙ low.lower (from + k) (omega arith)))

  -- its slot's pair is the next one
  pub next_pair : (slots : List (Slot K V)) (left from pos : ℕ) (pair : K × V) → NamesFrom slots left from → IsLowest left pos
      → live_pair (slot_at slots pos) ≡ Some pair → live_pairs (drop from slots) ≡ pair ∷ live_pairs (drop (pos + 1) slots)
  next_pair slots left from pos pair names low here =
      let past = lowest_ahead slots left from pos names low in
      let alive = live_from_pair (slot_at slots pos) pair here in
      let below = within is_live slots pos free refl alive in
      let first = live_pairs-live (slot_at slots pos) (drop (pos + 1) slots) alive in
      let same : first.0 ≡ pair = (let is : Some first.0 ≡ Some pair = sym first.1 ∙ here in cc) in
      let there : from + (pos - from) ≡ pos = omega arith in
      live_pairs-skip (drop from slots) (pos - from) (none_between slots left from pos names low)
      ∙ ap live_pairs (drop-drop (pos - from) from slots ∙ ap (λ n. drop n slots) there ∙ drop_more slots pos free below)
      ∙ first.2 ∙ ap (λ p. p ∷ live_pairs (drop (pos + 1) slots)) same

  -- its slot is live
  pub named_live : (slots : List (Slot K V)) (left from pos : ℕ) → NamesFrom slots left from → IsLowest left pos
      → is_live (slot_at slots pos) ≡ true
  named_live slots left from pos names low =
      bit_is (is_live (slot_at slots pos)) (sym (names.ahead pos (lowest_ahead slots left from pos names low)) ∙ low.set)

  -- so it isn't free, and its pair is a live one
  pub named_filled : (slots : List (Slot K V)) (left from pos : ℕ) → NamesFrom slots left from → IsLowest left pos
      → is_free (slot_at slots pos) ≡ false
  named_filled slots left from pos names low = (live_occupied (slot_at slots pos) (named_live slots left from pos names low)).0

  pub live_read : (slots : List (Slot K V)) (left from pos : ℕ) → NamesFrom slots left from → IsLowest left pos
      → live_pair (slot_at slots pos) ≡ pair_of (slot_at slots pos)
  live_read slots left from pos names low = (live_occupied (slot_at slots pos) (named_live slots left from pos names low)).1

  -- if no bit is left, there is no pair
  pub no_pair : (slots : List (Slot K V)) (from : ℕ) → NamesFrom slots 0 from → live_pairs (drop from slots) ≡ []
  no_pair slots from names =
      live_pairs-skip (drop from slots) (length (drop from slots)) (λ k less.
      rw (get_or-drop from slots k free)
      (bit_is_not (is_live (slot_at slots (from + k))) (sym (names.ahead (from + k) (omega arith)) ∙ bit_at-zero (from + k))))
      ∙ ap live_pairs (drop_all (length (drop from slots)) (drop from slots) (omega arith))

module _ {S K V : Type 0} (step : S → Bor K → Bor V → S → Type 0) where
  -- a function was called with the pairs of the live slots except those whose bits are left
  pub record IsCalling (first : S) (slots : List (Slot K V)) (now : S) (left : ℕ) : Type 0 where
    pub from : ℕ
    pub names : NamesFrom slots left from
    pub amid : IsAmid step first (live_pairs slots) now (live_pairs (drop from slots))

  pub calling_first : (first : S) (slots : List (Slot K V)) (left : ℕ) → IsMaskOf is_live slots left → IsCalling first slots first left
  calling_first first slots left mask =
      record { from = 0; names = names_all slots left mask; amid = record { done = []; parts = refl; calls = refl } }

  pub calling_next : (first now next : S) (slots : List (Slot K V)) (left pos after : ℕ) (own : Bor K) (value : Bor V)
      → IsCalling first slots now left → IsLowest left pos → SetsBit left pos 0 after
      → live_pair (slot_at slots pos) ≡ Some (own.now, value.now) → step now own value next → IsCalling first slots next after
  calling_next first now next slots left pos after own value calling low clears here call = record {
    from = pos + 1;
    names = names_next slots left calling.from pos after calling.names low clears;
    amid = one_more step first now next (live_pairs slots) (live_pairs (drop calling.from slots)) (live_pairs (drop (pos + 1) slots))
        own value calling.amid (next_pair slots left calling.from pos (own.now, value.now) calling.names low here) call;
  }

  pub calling_done : (first now : S) (slots : List (Slot K V)) → IsCalling first slots now 0 → CallsEach step first (live_pairs slots) now
  calling_done first now slots calling =
      done step first now (live_pairs slots) (live_pairs (drop calling.from slots)) calling.amid (no_pair slots calling.from calling.names)
