-- The tombstones of an index bucket after an insertion: it drops all of them or none.
use Rattle.std.proofs.Common.{ℕ, ◌≡◌, ◌++◌, Bool, true, false, if◌then◌else◌, List, [], ◌∷◌, flat_map, get_or}
use Rattle.std.proofs.Common.{map, set, suc, zero, refl, sym, ap, ◌∙◌}
use Rattle.std.proofs.lemmas.List.Elements.{filter_map-append}
use Rattle.bucket_slots.specs.BucketView.{BucketView, block_at, flattened, marks_in, with_slot_at}
use Rattle.bucket_slots.specs.Clearing.{looks_at_marks, rows_without_free_end, slot_without_expired, slots_after_insertion}
use Rattle.bucket_slots.specs.Clearing.{slots_without_expired, slots_without_free_end}
use Rattle.bucket_slots.specs.Placing.{free_block, place_for_next, slots_with, with_place_made}
use Rattle.bucket_slots.specs.Slots.{Slot, all_free, free, live, marked, marked_entries, marked_entry, slot_at}
use Rattle.bucket_slots.proofs.CallerLemmas.{filter_map-chain, filter_map-flattened, filter_map-is, flat_map-take, mark_of, place_made}
use Rattle.bucket_slots.proofs.CallerLemmas.{same_made, suffix_passes}

-- replacing an element by one with the same result changes nothing
flat_map-set : {A B : Type 0} (f : A → List B) (items : List A) (i : ℕ) (a d : A) → f a ≡ f (get_or items i d)
    → flat_map f (set items i a) ≡ flat_map f items
flat_map-set f [] i a d same = refl
flat_map-set f (c ∷ items) zero a d same = ap (λ l. l ++ flat_map f items) same
flat_map-set f (c ∷ items) (suc i) a d same = ap (λ l. f c ++ l) (flat_map-set f items i a d same)

-- no tombstone is kept
abbrev pub none_kept : ℕ → Bool
none_kept epoch = false

module _ {K V : Type 0} where
  -- replacing a slot by one with the same tombstone, or none
  row-set : (row : List (Slot K V)) (pos : ℕ) (x : Slot K V) → mark_of x ≡ mark_of (slot_at row pos)
      → marked_entries (set row pos x) ≡ marked_entries row
  row-set row pos x same =
      filter_map-is marked_entry (set row pos x) ∙ flat_map-set mark_of row pos x free same ∙ sym (filter_map-is marked_entry row)

  rows-set : (rows : List (List (Slot K V))) (i pos : ℕ) (x : Slot K V) → mark_of x ≡ mark_of (slot_at (get_or rows i []) pos)
      → marked_entries (flattened (set rows i (set (get_or rows i []) pos x))) ≡ marked_entries (flattened rows)
  rows-set rows i pos x same =
      filter_map-flattened marked_entry (set rows i (set (get_or rows i []) pos x))
      ∙ flat_map-set (λ row. marked_entries row) rows i _ [] (row-set (get_or rows i []) pos x same)
      ∙ sym (filter_map-flattened marked_entry rows)

  with_slot : (s : BucketView K V) (block pos : ℕ) (x : Slot K V) → mark_of x ≡ mark_of (slot_at (block_at s block) pos)
      → marks_in (with_slot_at s block pos x) ≡ marks_in s
  with_slot s zero pos x same = rows-set (s.own ∷ s.chain) zero pos x same
  with_slot s (suc i) pos x same = rows-set (s.own ∷ s.chain) (suc i) pos x same

  -- a pair is put, and the blocks that are all free at the end are dropped
  put : (s : BucketView K V) (pair : K × V) (byte : ℕ) → marks_in (slots_with s pair byte) ≡ marks_in s
  put s pair byte =
      let at = place_for_next s in
      with_slot (with_place_made s) at.block at.pos (live pair byte) (sym (ap mark_of (place_made s).slot))
      ∙ same_made marks_in s (filter_map-chain marked_entry s (free_block ∷ s.chain) refl)

  no_mark : (row : List (Slot K V)) → all_free row ≡ true → marked_entries row ≡ []
  no_mark [] vacant = refl
  no_mark (free ∷ row) vacant = no_mark row vacant
  no_mark (slot ∷ row) vacant = cc

  end : (s : BucketView K V) → marks_in (slots_without_free_end s) ≡ marks_in s
  end s = filter_map-chain marked_entry s (rows_without_free_end s.chain)
      (filter_map-flattened marked_entry (rows_without_free_end s.chain)
      ∙ flat_map-take (λ row. marked_entries row) _ s.chain []
      (λ i from below. no_mark (get_or s.chain i []) (suffix_passes all_free s.chain i [] from below))
      ∙ sym (filter_map-flattened marked_entry s.chain))

  -- no tombstone is left if none is kept
  row_unexpired : (row : List (Slot K V)) → marked_entries (map (slot_without_expired none_kept) row) ≡ []
  row_unexpired [] = refl
  row_unexpired (free ∷ row) = row_unexpired row
  row_unexpired (live pair byte ∷ row) = row_unexpired row
  row_unexpired (marked pair epoch ∷ row) = row_unexpired row

  rows_unexpired : (rows : List (List (Slot K V))) → marked_entries (flattened (map (map (slot_without_expired none_kept)) rows)) ≡ []
  rows_unexpired [] = refl
  rows_unexpired (row ∷ rows) =
      rw (
        filter_map-append marked_entry (map (slot_without_expired none_kept) row)
            (flattened (map (map (slot_without_expired none_kept)) rows)),
        row_unexpired row,
        rows_unexpired rows,
      ) refl

  -- what is left after an insertion, which drops tombstones or doesn't
  abbrev pub left_of : Bool → List ((K × V) × ℕ) → List ((K × V) × ℕ)
  left_of looks marks = if looks then [] else marks

  inserted : (s : BucketView K V) (pair : K × V) (byte : ℕ) (looks : Bool) → marks_in (if looks
      then slots_without_free_end (slots_with (slots_without_expired none_kept s) pair byte) else slots_with s pair byte)
      ≡ left_of looks (marks_in s)
  inserted s pair byte true =
      let cleared = slots_without_expired none_kept s in
      end (slots_with cleared pair byte) ∙ put cleared pair byte ∙ rows_unexpired (s.own ∷ s.chain)
  inserted s pair byte false = put s pair byte

  pub marks_in-slots_after_insertion : (kind : ℕ) (s : BucketView K V) (pair : K × V) (byte : ℕ)
      → marks_in (slots_after_insertion kind none_kept s pair byte) ≡ left_of (looks_at_marks kind s) (marks_in s)
  marks_in-slots_after_insertion kind s pair byte = inserted s pair byte (looks_at_marks kind s)
