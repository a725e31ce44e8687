-- Occupied slots that stay as they are, and the pairs in them.
use Rattle.bucket_table.proofs.Words.{All, All-cons, All-nil, Bool, BucketView, Contains, Contains-append_cases, Contains-append_left}
use Rattle.bucket_table.proofs.Words.{Contains-append_right, KeepsPlaces, List, None, Option, Place, Slot, Some, StandsInChain, ℕ, [], ap}
use Rattle.bucket_table.proofs.Words.{arith, block_at, cases_eq, cases_lt, cons_option, eq-eqb, false, filter_map-append, first_place}
use Rattle.bucket_table.proofs.Words.{flattened, free, get_or, get_or-set_other, get_or-set_same, get_or_past, if◌then◌else◌, inl, inr}
use Rattle.bucket_table.proofs.Words.{is_free, is_listed, length, live, live_pair, live_pairs, map, marked, or_left, or_right, pairs_in}
use Rattle.bucket_table.proofs.Words.{refl, replicate, row_at, rows_with, set, slot_at, slot_in, subst, suc, sym, true, true≢false, zero}
use Rattle.bucket_table.proofs.Words.{◌++◌, ◌<◌, ◌==◌, ◌∙◌, ◌∷◌, ◌≡◌, ◌⊎◌}
use Rattle.bucket_slots.specs.Placing.{free_block, place_for_next, slots_with, with_place_made}
use Rattle.std.specs.Prelude.{filter_map, is_some}
use Rattle.bucket_slots.proofs.BucketPlacing.{place_made}
use Rattle.bucket_slots.specs.BucketView.{with_slot, with_slot_at}
use Rattle.bucket_slots.specs.Reserving.{with_free_blocks}

some_of : {A : Type 0} (o : Option A) → (o ≡ None → ⊥) → is_some o ≡ true
some_of None never = absurd (never refl)
some_of (Some x) never = refl

pub get_or-front : {X : Type 0} (xs ys : List X) (k : ℕ) (d : X) → k < length xs → get_or (xs ++ ys) k d ≡ get_or xs k d
get_or-front [] ys k d below = absurd (omega arith)
get_or-front (x ∷ xs) ys zero d below = refl
get_or-front (x ∷ xs) ys (suc k) d below = get_or-front xs ys k d (omega arith)

module _ {K V : Type 0} where
  pub stay_same : (c : List (BucketView K V)) → KeepsPlaces c c
  stay_same c = λ i at occupied. refl

  pub stay_both : (c d e : List (BucketView K V)) → KeepsPlaces c d → KeepsPlaces d e → KeepsPlaces c e
  stay_both c d e first second = λ i at occupied.
      second i at (ap is_free (first i at occupied) ∙ occupied) ∙ first i at occupied

  -- a free slot is replaced by another one
  row_other : (row : List (Slot K V)) (pos at : ℕ) (x : Slot K V) → slot_at row pos ≡ free → is_free (slot_at row at) ≡ false
      → slot_at (set row pos x) at ≡ slot_at row at
  row_other row pos at x vacant occupied =
      get_or-set_other row pos at x free (λ same. true≢false (ap is_free (sym vacant) ∙ rw (← same) occupied))

  no_row : (rows : List (List (Slot K V))) (k at : ℕ) → is_free (slot_at (row_at rows k) at) ≡ false → (k < length rows → ⊥) → ⊥
  no_row rows k at occupied never =
      let none : row_at rows k ≡ [] = get_or_past rows k [] (elim (cases_lt k (length rows)) [
        | inl within ↦ absurd (never within)
        | inr past ↦ past
      ]) in
      true≢false (sym (ap (λ (row : List (Slot K V)). is_free (slot_at row at)) none) ∙ occupied)

  rows_other : (rows : List (List (Slot K V))) (i pos k at : ℕ) (x : Slot K V) → slot_at (row_at rows i) pos ≡ free
      → is_free (slot_at (row_at rows k) at) ≡ false → slot_at (row_at (rows_with rows i pos x) k) at ≡ slot_at (row_at rows k) at
  rows_other rows i pos k at x vacant occupied = elim (cases_eq k i) [
    | inr apart ↦ ap (λ (row : List (Slot K V)). slot_at row at) (get_or-set_other rows i k (set (row_at rows i) pos x) [] apart)
    | inl same ↦
        let here : is_free (slot_at (row_at rows i) at) ≡ false = rw same at occupied in
        elim (cases_lt i (length rows)) [
          | inl within ↦ rw (same, get_or-set_same rows i (set (row_at rows i) pos x) [] within)
              (row_other (row_at rows i) pos at x vacant here)
          | inr past ↦ absurd (no_row rows i at here (λ within. omega (arith, within, past)))
        ]
  ]

  slot_other : (s : BucketView K V) (block pos b p : ℕ) (x : Slot K V) → slot_at (block_at s block) pos ≡ free
      → is_free (slot_at (block_at s b) p) ≡ false → slot_at (block_at (with_slot_at s block pos x) b) p ≡ slot_at (block_at s b) p
  slot_other s zero pos zero p x vacant occupied = row_other s.own pos p x vacant occupied
  slot_other s zero pos (suc k) p x vacant occupied = refl
  slot_other s (suc i) pos zero p x vacant occupied = refl
  slot_other s (suc i) pos (suc k) p x vacant occupied = rows_other s.chain i pos k p x vacant occupied

  -- a pair is placed in a free slot
  pub place_kept : (s : BucketView K V) (pair : K × V) (byte : ℕ) (at : Place) → (first_place is_free s ≡ None → ⊥)
      → is_free (slot_in s at) ≡ false → slot_in (slots_with s pair byte) at ≡ slot_in s at
  place_kept s pair byte at room occupied =
      let next = place_for_next s in
      let made : with_place_made s ≡ s = ap (λ (found : Bool). if found then s else record s { chain = free_block ∷ s.chain })
      (some_of (first_place is_free s) room) in
      let vacant = subst (λ (b : BucketView K V). slot_at (block_at b next.block) next.pos ≡ free) made (place_made s).slot in
      subst (λ (b : BucketView K V). slot_in (with_slot b next (live pair byte)) at ≡ slot_in s at) (sym made)
      (slot_other s next.block next.pos at.block at.pos (live pair byte) vacant occupied)

  -- blocks are added at the chain's end
  pub blocks_other : (s : BucketView K V) (n b p : ℕ) → is_free (slot_at (block_at s b) p) ≡ false
      → slot_at (block_at (with_free_blocks s n) b) p ≡ slot_at (block_at s b) p
  blocks_other s n zero p occupied = refl
  blocks_other s n (suc k) p occupied = elim (cases_lt k (length s.chain)) [
    | inl within ↦ ap (λ (row : List (Slot K V)). slot_at row p) (get_or-front s.chain (replicate n free_block) k [] within)
    | inr past ↦ absurd (no_row s.chain k p occupied (λ within. omega (arith, within, past)))
  ]

  -- or the list is replaced
  pub place_listed : (s : BucketView K V) (order : List ℕ) (block pos : ℕ)
      → slot_at (block_at (record s { listed = order }) block) pos ≡ slot_at (block_at s block) pos
  place_listed s order zero pos = refl
  place_listed s order (suc i) pos = refl

  -- what some slots of a row have, as their pairs or their tombstones, one of them has
  module _ {B : Type 0} (part : Slot K V → Option B) where
    one_of : (x : Slot K V) (xs : List (Slot K V)) (p : B) (found : Option B) → part x ≡ found
        → Contains (cons_option found (filter_map part xs)) p
        → (Contains (filter_map part xs) p → (slot : ℕ) × (part (slot_at xs slot) ≡ Some p))
        → (slot : ℕ) × (part (slot_at (x ∷ xs) slot) ≡ Some p)
    one_of x xs p None is has rest = let (slot, there) = rest has in (suc slot, there)
    one_of x xs p (Some q) is (zero, below, here) rest = (0, is ∙ ap Some here)
    one_of x xs p (Some q) is (suc k, below, here) rest = let (slot, there) = rest (k, omega arith, here) in (suc slot, there)

    pub slot_of : (xs : List (Slot K V)) (p : B) → Contains (filter_map part xs) p → (slot : ℕ) × (part (slot_at xs slot) ≡ Some p)
    slot_of [] p has = absurd (omega (arith, has.1))
    slot_of (x ∷ xs) p has = one_of x xs p (part x) refl has (slot_of xs p)

    behind : (ps : List B) (p : B) (found : Option B) → Contains ps p → Contains (cons_option found ps) p
    behind ps p None has = has
    behind ps p (Some q) has = Contains-append_right (q ∷ []) ps p has

    pub contains_at : part free ≡ None → (xs : List (Slot K V)) (slot : ℕ) (p : B) → part (slot_at xs slot) ≡ Some p
        → Contains (filter_map part xs) p
    contains_at none [] slot p here = cc
    contains_at none (x ∷ xs) zero p here =
        subst (λ (found : Option B). Contains (cons_option found (filter_map part xs)) p) (sym here) (0, omega arith, refl)
    contains_at none (x ∷ xs) (suc i) p here = behind (filter_map part xs) p (part x) (contains_at none xs i p here)

    -- and the same for a chain
    pub in_row : (rows : List (List (Slot K V))) (p : B) → Contains (filter_map part (flattened rows)) p
        → (i pos : ℕ) × (part (slot_at (row_at rows i) pos) ≡ Some p)
    in_row [] p has = absurd (omega (arith, has.1))
    in_row (row ∷ rows) p has =
        let parts = subst (λ (ps : List B). Contains ps p) (filter_map-append part row (flattened rows)) has in
        elim (Contains-append_cases (filter_map part row) (filter_map part (flattened rows)) p parts) [
          | inl here ↦ let (pos, is) = slot_of row p here in (0, pos, is)
          | inr there ↦ let (i, pos, is) = in_row rows p there in (suc i, pos, is)
        ]

    pub from_row : part free ≡ None → (rows : List (List (Slot K V))) (i pos : ℕ) (p : B) → part (slot_at (row_at rows i) pos) ≡ Some p
        → Contains (filter_map part (flattened rows)) p
    from_row none [] i pos p here = cc
    from_row none (row ∷ rows) zero pos p here =
        rw (filter_map-append part row (flattened rows))
        (Contains-append_left (filter_map part row) (filter_map part (flattened rows)) p (contains_at none row pos p here))
    from_row none (row ∷ rows) (suc i) pos p here =
        rw (filter_map-append part row (flattened rows))
        (Contains-append_right (filter_map part row) (filter_map part (flattened rows)) p (from_row none rows i pos p here))

  -- a pair of a bucket is in an own slot or in the chain
  pub own_or_chain : (b : BucketView K V) (p : K × V) → Contains (pairs_in b) p → Contains (live_pairs b.own) p ⊎ StandsInChain b p
  own_or_chain b p has = Contains-append_cases (live_pairs b.own) (live_pairs (flattened b.chain)) p
      (subst (λ (ps : List (K × V)). Contains ps p) (filter_map-append live_pair b.own (flattened b.chain)) has)

  with_pair : (P : K × V → Type 0) (x : Slot K V) (rest : List (Slot K V)) → ((p : K × V) → live_pair x ≡ Some p → P p)
      → All P (live_pairs rest) → All P (live_pairs (x ∷ rest))
  with_pair P free rest here all = all
  with_pair P (marked p b) rest here all = all
  with_pair P (live p b) rest here all = All-cons P p (live_pairs rest) (here p refl) all

  -- what holds of the pair of each listed slot holds of the listed pairs
  pub each_listed : (P : K × V → Type 0) (own : ℕ → Slot K V) (order : List ℕ)
      → ((slot : ℕ) (p : K × V) → is_listed order slot ≡ true → live_pair (own slot) ≡ Some p → P p)
      → All P (live_pairs (map own order))
  each_listed P own [] each = All-nil P
  each_listed P own (slot ∷ order) each =
      let first = or_left (slot == slot) (is_listed order slot) (eq-eqb slot slot refl) in
      with_pair P (own slot) (map own order) (λ p here. each slot p first here)
      (each_listed P own order (λ at p listed here. each at p (or_right (at == slot) (is_listed order at) listed) here))
