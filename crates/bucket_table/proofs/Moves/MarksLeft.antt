-- The tombstones of a bucket whose pairs move: they stay where they are, even when the bucket is killed.
use Rattle.bucket_table.proofs.Words.{Bool, BucketView, INDEX, IsBucketOf, List, Option, Slot, Some, ℕ, [], all_slots, ap, append-nil}
use Rattle.bucket_table.proofs.Words.{arith, block_at, cond, cons_option, false, filter_map-append, flattened, free, get_or, length}
use Rattle.bucket_table.proofs.Words.{length-append, live, live_pair, marked, marks_in, nil_from_length, refl, row_at, rows_with, set}
use Rattle.bucket_table.proofs.Words.{slot_at, suc, sum_by-cons, sym, true, zero, ◌++◌, ◌==◌, ◌∙◌, ◌∷◌, ◌≡◌}
use Rattle.std.proofs.lemmas.Bool.Decides.{nat_tests}
use Rattle.std.specs.Prelude.{filter_map, flat_map, if◌then◌else◌}
use Rattle.bucket_slots.proofs.PairsAfter.{live_is}
use Rattle.bucket_slots.proofs.Entries.{filter_map-chain, filter_map-flattened}
use Rattle.bucket_slots.specs.Moving.{slots_killed, slots_vacated_at}
use Rattle.bucket_slots.specs.Slots.{is_marked, marked_entries, marked_entry, marked_len}

-- another element that gives the same, in a list and in a list of rows
module _ {A B : Type 0} where
  filter_map-alike : (h : A → Option B) (items : List A) (i : ℕ) (a d : A) → h a ≡ h (get_or items i d)
      → filter_map h (set items i a) ≡ filter_map h items
  filter_map-alike h [] i a d same = refl
  filter_map-alike h (c ∷ items) zero a d same = ap (λ (found : Option B). cons_option found (filter_map h items)) same
  filter_map-alike h (c ∷ items) (suc i) a d same =
      ap (λ (those : List B). cons_option (h c) those) (filter_map-alike h items i a d same)

  flat_map-alike : (f : A → List B) (items : List A) (i : ℕ) (a d : A) → f a ≡ f (get_or items i d)
      → flat_map f (set items i a) ≡ flat_map f items
  flat_map-alike f [] i a d same = refl
  flat_map-alike f (c ∷ items) zero a d same = ap (λ (those : List B). those ++ flat_map f items) same
  flat_map-alike f (c ∷ items) (suc i) a d same =
      ap (λ (those : List B). f c ++ those) (flat_map-alike f items i a d same)

module _ {K V : Type 0} where
  -- a live slot that is vacated wasn't a tombstone
  row_vacated : (slots : List (Slot K V)) (pos : ℕ) (p : K × V) → live_pair (slot_at slots pos) ≡ Some p
      → marked_entries (set slots pos free) ≡ marked_entries slots
  row_vacated slots pos p here =
      filter_map-alike marked_entry slots pos free free (sym (ap marked_entry (live_is (slot_at slots pos) p here).1))

  pub marks_in-vacated_at : (s : BucketView K V) (block pos : ℕ) (p : K × V) → live_pair (slot_at (block_at s block) pos) ≡ Some p
      → marks_in (slots_vacated_at s block pos) ≡ marks_in s
  marks_in-vacated_at s zero pos p here =
      let chain = flattened s.chain in
      filter_map-append marked_entry (set s.own pos free) chain
      ∙ ap (λ (those : List ((K × V) × ℕ)). those ++ marked_entries chain) (row_vacated s.own pos p here)
      ∙ sym (filter_map-append marked_entry s.own chain)
  marks_in-vacated_at s (suc i) pos p here =
      let rows = rows_with s.chain i pos free in
      filter_map-chain marked_entry s rows (filter_map-flattened marked_entry rows
      ∙ flat_map-alike marked_entries s.chain i (set (row_at s.chain i) pos free) [] (row_vacated (row_at s.chain i) pos p here)
      ∙ sym (filter_map-flattened marked_entry s.chain))

  none_marked : (slots : List (Slot K V)) → marked_len slots ≡ 0 → marked_entries slots ≡ []
  none_marked [] none = refl
  none_marked (free ∷ slots) none = none_marked slots none
  none_marked (live p byte ∷ slots) none = none_marked slots none
  none_marked (marked p byte ∷ slots) none =
      absurd (omega (arith, none, sum_by-cons (λ (x : Slot K V). cond (is_marked x) 1 0) (marked p byte) slots))

  killed_alike : (keeps : Bool) (s : BucketView K V) → (keeps ≡ false → marks_in s ≡ [])
      → marks_in (record s { chain = if keeps then s.chain else []; killed = true }) ≡ marks_in s
  killed_alike true s none = refl
  killed_alike false s none =
      let own = marked_entries s.own in
      let long = ap length (sym (filter_map-append marked_entry s.own (flattened s.chain)) ∙ none refl) in
      let own_none : own ≡ [] = nil_from_length own (omega (arith, long, length-append own (marked_entries (flattened s.chain)))) in
      filter_map-append marked_entry s.own [] ∙ append-nil own ∙ own_none ∙ sym (none refl)

  -- an index keeps its chain, and a bucket of another kind has no tombstone
  pub marks_in-killed : (kind : ℕ) (s left : BucketView K V) → IsBucketOf kind s → marks_in left ≡ marks_in s
      → marks_in (slots_killed kind left) ≡ marks_in s
  marks_in-killed kind s left laws same =
      killed_alike (kind == INDEX) left
      (λ other. same ∙ none_marked (all_slots s) (laws.unmarked (λ is. absurd (grind (arith, nat_tests)))))
      ∙ same
