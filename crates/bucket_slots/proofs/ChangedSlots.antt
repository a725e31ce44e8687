-- What holds of the fields of a bucket when one of its slots changes.
use Rattle.bucket_slots.proofs.Words.{All, All-filter, Bool, BucketView, CACHE, INDEX, IsBucket, IsTrue, List, Place, Slot, [], ap}
use Rattle.bucket_slots.proofs.Words.{arith, block_at, cases_eq, false, filter_passes, flattened, free, get_or, get_or-set_other}
use Rattle.bucket_slots.proofs.Words.{get_or-set_same, inl, inr, is_live, is_marked, length, length-set, live, live_pairs, nat_tests, not}
use Rattle.bucket_slots.proofs.Words.{order_without, refl, row_at, rows_with, set, slot_at, slot_in, slot_marked, slot_with_value, ℕ}
use Rattle.bucket_slots.proofs.Words.{slots_vacated_at, suc, true, with_slot, with_slot_at, zero, ◌+◌, ◌-◌, ◌<◌, ◌==◌, ◌∙◌, ◌≡◌, ◌≢◌, ◌≤◌}
use Rattle.bucket_slots.proofs.Counting.{length-live_pairs, linked_row, sum_by-rows_with, sum_by-with_slot, tally}
use Rattle.bucket_slots.proofs.FirstPlaces.{live_occupied}
use Rattle.bucket_slots.proofs.Pointing.{inside_row}

apart : (x pos : ℕ) → not (x == pos) ≡ true → x ≢ pos
apart x pos passed same = let e : (x == pos) ≡ true = rw same (grind (arith, nat_tests)) in cc

-- a live slot counts if it is in the chain
abbrev chained_tally : ℕ → Bool → ℕ
chained_tally zero alive = 0
chained_tally (suc i) alive = tally alive

-- another slot doesn't count
dead : (block : ℕ) → chained_tally block false ≡ 0
dead zero = refl
dead (suc i) = refl

-- the stored number after a slot of a block is filled, and after one is no longer live
abbrev pub chained_with : ℕ → ℕ → ℕ
chained_with zero chained = chained
chained_with (suc i) chained = chained + 1

abbrev pub chained_without : ℕ → ℕ → ℕ
chained_without zero chained = chained
chained_without (suc i) chained = chained - 1

filled : (block chained : ℕ) → chained_with block chained ≡ chained + chained_tally block true
filled zero chained = omega arith
filled (suc i) chained = refl

module _ {K V : Type 0} where
  -- the listed slots are live own ones
  abbrev AreLive : List (Slot K V) → List ℕ → Type 0
  AreLive own listed = All (λ slot. IsTrue (is_live (slot_at own slot))) listed

  -- a bucket with one slot and the LRU list replaced
  abbrev pub slots_changed : BucketView K V → ℕ → ℕ → Slot K V → List ℕ → BucketView K V
  slots_changed s block pos x listed =
      record { own = (with_slot_at s block pos x).own; chain = (with_slot_at s block pos x).chain; listed = listed; killed = s.killed }

  length-own : (s : BucketView K V) (block pos : ℕ) (x : Slot K V) → length (with_slot_at s block pos x).own ≡ length s.own
  length-own s zero pos x = length-set s.own pos x
  length-own s (suc i) pos x = refl

  still_live : (own : List (Slot K V)) (pos i : ℕ) (x : Slot K V) → pos < length own → is_live x ≡ true → IsTrue (is_live (slot_at own i))
      → IsTrue (is_live (slot_at (set own pos x) i))
  still_live own pos i x short alive h = elim (cases_eq i pos) [
    | inl same ↦ rw (same, get_or-set_same own pos x free short) alive
    | inr other ↦ rw (get_or-set_other own pos i x free other) h
  ]

  -- the slots of a block after a slot changes
  pub block_at-with_slot : (s : BucketView K V) (block pos : ℕ) (x : Slot K V) → pos < length (block_at s block)
      → block_at (with_slot_at s block pos x) block ≡ set (block_at s block) pos x
  block_at-with_slot s zero pos x short = refl
  block_at-with_slot s (suc i) pos x short = get_or-set_same s.chain i (set (get_or s.chain i []) pos x) [] (linked_row s.chain i pos short)

  pub slot_in-with_slot : (s : BucketView K V) (at : Place) (x : Slot K V) → at.pos < length (block_at s at.block)
      → slot_in (with_slot s at x) at ≡ x
  slot_in-with_slot s at x short =
      ap (λ row. slot_at row at.pos) (block_at-with_slot s at.block at.pos x short)
      ∙ get_or-set_same (block_at s at.block) at.pos x free short

  -- if a slot is live afterwards, the listed ones stay live
  AreLive-changed : (s : BucketView K V) (block pos : ℕ) (x : Slot K V) → pos < length (block_at s block) → is_live x ≡ true
      → AreLive s.own s.listed → AreLive (with_slot_at s block pos x).own s.listed
  AreLive-changed s zero pos x short alive h k d below = still_live s.own pos (get_or s.listed k d) x short alive (h k d below)
  AreLive-changed s (suc i) pos x short alive h k d below = h k d below

  -- and all but one stay live, whatever that one becomes
  AreLive-without : (own : List (Slot K V)) (pos : ℕ) (x : Slot K V) (listed : List ℕ) → AreLive own listed
      → AreLive (set own pos x) (order_without listed pos)
  AreLive-without own pos x listed h k d below =
      let slot = get_or (order_without listed pos) k d in
      let other = apart slot pos (filter_passes (λ (y : ℕ). not (y == pos)) listed k d below) in
      rw (get_or-set_other own pos slot x free other)
      (All-filter (λ (y : ℕ). not (y == pos)) (λ y. IsTrue (is_live (slot_at own y))) listed h k d below)

  -- the stored number follows the slot
  chained-changed : (s : BucketView K V) (chained count block pos : ℕ) (x : Slot K V) → chained ≡ length (live_pairs (flattened s.chain))
      → pos < length (block_at s block)
      → count + chained_tally block (is_live (slot_at (block_at s block) pos)) ≡ chained + chained_tally block (is_live x)
      → count ≡ length (live_pairs (flattened (with_slot_at s block pos x).chain))
  chained-changed s chained count zero pos x counted short counts = omega (arith, counted, counts)
  chained-changed s chained count (suc i) pos x counted short counts =
      let lives = sum_by-rows_with (λ (y : Slot K V). tally (is_live y)) s.chain i pos x short in
      omega (arith, counted, counts, length-live_pairs (flattened s.chain), length-live_pairs (flattened (rows_with s.chain i pos x)))

  pub IsBucket-changed : (kind : ℕ) (s : BucketView K V) (chained count block pos : ℕ) (x : Slot K V) (listed : List ℕ)
      → IsBucket kind s chained → pos < length (block_at s block)
      → count + chained_tally block (is_live (slot_at (block_at s block) pos)) ≡ chained + chained_tally block (is_live x)
      → (kind ≢ INDEX → is_marked x ≡ false) → AreLive (with_slot_at s block pos x).own listed → (kind ≢ CACHE → listed ≡ [])
      → IsBucket kind (slots_changed s block pos x listed) count
  IsBucket-changed kind s chained count block pos x listed h short counts unmarked kept unlisted =
      let marks = sum_by-with_slot (λ (y : Slot K V). tally (is_marked y)) s block pos x short in
      record {
        counted = chained-changed s chained count block pos x h.counted short counts;
        own_long = length-own s block pos x ∙ h.own_long;
        listed_live = kept;
        unlisted = unlisted;
        unmarked = λ other. omega (arith, h.unmarked other, ap tally (unmarked other));
      }

  pub live_inside : (slots : List (Slot K V)) (pos : ℕ) → is_live (slot_at slots pos) ≡ true → pos < length slots
  live_inside slots pos alive = inside_row slots pos (live_occupied (slot_at slots pos) alive).0

  -- a live slot of block 0 is in the own row; s is what the bucket t consists of
  pub own_live : {kind chained : ℕ} (s t : BucketView K V) (p : Place) (pos : ℕ) → s ≡ t → p.block ≡ 0 → pos ≡ p.pos
      → IsBucket kind s chained → is_live (slot_in t p) ≡ true → (pos < 32) × (is_live (slot_at s.own pos) ≡ true)
  own_live s t p pos is own here kept alive =
      let live = rw (← is, own, ← here) at alive in (omega (arith, kept.own_long, live_inside s.own pos live), live)

  -- with a live slot in the chain the stored number isn't 0
  pub some_live : (kind : ℕ) (s : BucketView K V) (chained i pos : ℕ) → IsBucket kind s chained
      → is_live (slot_at (block_at s (suc i)) pos) ≡ true → 1 ≤ chained
  some_live kind s chained i pos h alive =
      let lives = sum_by-rows_with (λ (y : Slot K V). tally (is_live y)) s.chain i pos free (live_inside (row_at s.chain i) pos alive) in
      omega (arith, h.counted, length-live_pairs (flattened s.chain), ap tally alive)

  -- what holds after a live slot is no longer live
  gone : (kind : ℕ) (s : BucketView K V) (chained block pos : ℕ) → IsBucket kind s chained → is_live (slot_at (block_at s block) pos) ≡ true
      → chained_without block chained + chained_tally block (is_live (slot_at (block_at s block) pos)) ≡ chained
  gone kind s chained zero pos h alive = omega arith
  gone kind s chained (suc i) pos h alive = omega (arith, some_live kind s chained i pos h alive, ap tally alive)

  -- a pair is placed in a free slot
  pub IsBucket-filled : (kind : ℕ) (s : BucketView K V) (chained block pos : ℕ) (pair : K × V) (byte : ℕ) → IsBucket kind s chained
      → pos < length (block_at s block) → slot_at (block_at s block) pos ≡ free
      → IsBucket kind (slots_changed s block pos (live pair byte) s.listed) (chained_with block chained)
  IsBucket-filled kind s chained block pos pair byte h short vacant =
      IsBucket-changed kind s chained (chained_with block chained) block pos (live pair byte) s.listed h short
      (omega (arith, ap (λ (y : Slot K V). chained_tally block (is_live y)) vacant, dead block, filled block chained)) (λ _. refl)
      (AreLive-changed s block pos (live pair byte) short refl h.listed_live) h.unlisted

  -- a live slot is vacated
  pub IsBucket-vacated : (kind : ℕ) (s : BucketView K V) (chained block pos : ℕ) → IsBucket kind s chained
      → is_live (slot_at (block_at s block) pos) ≡ true → IsBucket kind (slots_vacated_at s block pos) (chained_without block chained)
  IsBucket-vacated kind s chained zero pos h alive =
      IsBucket-changed kind s chained chained zero pos free (order_without s.listed pos) h (live_inside s.own pos alive) refl (λ _. refl)
      (AreLive-without s.own pos free s.listed h.listed_live)
      (λ other. ap (λ listed. order_without listed pos) (h.unlisted other))
  IsBucket-vacated kind s chained (suc i) pos h alive =
      IsBucket-changed kind s chained (chained - 1) (suc i) pos free s.listed h (live_inside (block_at s (suc i)) pos alive)
      (omega (arith, gone kind s chained (suc i) pos h alive)) (λ _. refl) h.listed_live h.unlisted

  marked_is_dead : (x : Slot K V) (epoch : ℕ) → is_live (slot_marked epoch x) ≡ false
  marked_is_dead free epoch = refl
  marked_is_dead slot epoch = refl

  -- a live slot of an index becomes a tombstone
  pub IsBucket-marked : (kind : ℕ) (s : BucketView K V) (chained block pos epoch : ℕ) → kind ≡ INDEX → IsBucket kind s chained
      → is_live (slot_at (block_at s block) pos) ≡ true
      → IsBucket kind (slots_changed s block pos (slot_marked epoch (slot_at (block_at s block) pos)) s.listed)
      (chained_without block chained)
  IsBucket-marked kind s chained block pos epoch index h alive =
      let slot = slot_at (block_at s block) pos in
      let none : s.listed ≡ [] = h.unlisted (λ cache. omega (arith, cache, index)) in
      IsBucket-changed kind s chained (chained_without block chained) block pos (slot_marked epoch slot) s.listed h
      (live_inside (block_at s block) pos alive)
      (omega (arith, gone kind s chained block pos h alive, ap (chained_tally block) (marked_is_dead slot epoch), dead block))
      (λ other. absurd (other index)) (rw none (λ k d below. absurd (omega arith))) h.unlisted

  -- a live slot with another value is live
  pub live-value : (x : Slot K V) (value : V) → is_live x ≡ true
      → (is_live (slot_with_value x value) ≡ true) × (is_marked (slot_with_value x value) ≡ false)
  live-value (live pair byte) value alive = (refl, refl)
  live-value slot value alive = cc

  -- the value in a live slot changes
  pub IsBucket-value : (kind : ℕ) (s : BucketView K V) (chained block pos : ℕ) (value : V) → IsBucket kind s chained
      → is_live (slot_at (block_at s block) pos) ≡ true
      → IsBucket kind (slots_changed s block pos (slot_with_value (slot_at (block_at s block) pos) value) s.listed) chained
  IsBucket-value kind s chained block pos value h alive =
      let slot = slot_at (block_at s block) pos in
      let same = live-value slot value alive in
      let short = live_inside (block_at s block) pos alive in
      IsBucket-changed kind s chained chained block pos (slot_with_value slot value) s.listed h short
      (omega (arith, ap (chained_tally block) alive, ap (chained_tally block) same.0)) (λ _. same.1)
      (AreLive-changed s block pos (slot_with_value slot value) short same.0 h.listed_live) h.unlisted
