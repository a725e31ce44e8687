-- The pairs before a slot and after it, whatever is in it.
use Rattle.bucket_slots.proofs.Words.{BucketView, IsBucketOf, IsChain, List, None, Place, Slot, Some, [], add-one, ap, append_assoc, arith}
use Rattle.bucket_slots.proofs.Words.{block_at, cons_option, drop, filter_map-append, flattened, free, get_or, length, live_pair}
use Rattle.bucket_slots.proofs.Words.{live_pairs, map, pairs_ahead, pairs_in, refl, set, set_split, slot_in, slot_marked}
use Rattle.bucket_slots.proofs.Words.{slots_marked, slots_vacated, slots_vacated_at, slots_without, suc, sym, take, with_slot, with_slot_at}
use Rattle.bucket_slots.proofs.Words.{zero, ℕ, ◌++◌, ◌+◌, ◌<◌, ◌∙◌, ◌∷◌, ◌≡◌}
use Rattle.std.proofs.lemmas.List.{append_cancel_right}
use Rattle.bucket_slots.proofs.ChangedSlots.{live_inside}
use Rattle.bucket_slots.proofs.Entries.{map-entries_in}
use Rattle.bucket_slots.proofs.FirstPlaces.{block_short}
use Rattle.bucket_slots.proofs.NextPlaces.{pairs_ahead-inside}
use Rattle.bucket_slots.proofs.PairsAfter.{entries_unlinked, length-vacated, live_from_pair, live_is, there, with_slot-same}

module _ {K V : Type 0} where
  -- the slots before one of a row, and of the rows before it
  slots_before : List (List (Slot K V)) → ℕ → ℕ → List (Slot K V)
  slots_before [] i pos = []
  slots_before (row ∷ rows) zero pos = take pos row
  slots_before (row ∷ rows) (suc i) pos = row ++ slots_before rows i pos

  -- and those after it
  abbrev slots_behind : List (List (Slot K V)) → ℕ → ℕ → List (Slot K V)
  slots_behind rows i pos = drop (suc pos) (get_or rows i []) ++ flattened (drop (suc i) rows)

  flattened-set : (rows : List (List (Slot K V))) (i pos : ℕ) (x : Slot K V) → pos < length (get_or rows i [])
      → flattened (set rows i (set (get_or rows i []) pos x)) ≡ slots_before rows i pos ++ x ∷ slots_behind rows i pos
  unfolding slots_before
  flattened-set [] zero pos x short = absurd (omega arith)
  flattened-set [] (suc i) pos x short = absurd (omega arith)
  flattened-set (row ∷ rows) zero pos x short =
      ap (λ l. l ++ flattened rows) (set_split row pos x short)
      ∙ append_assoc (take pos row) (x ∷ drop (suc pos) row) (flattened rows)
  flattened-set (row ∷ rows) (suc i) pos x short =
      ap (λ l. row ++ l) (flattened-set rows i pos x short) ∙ sym (append_assoc row (slots_before rows i pos) (x ∷ slots_behind rows i pos))

  -- the live pairs before a place
  pairs_before : BucketView K V → Place → List (K × V)
  pairs_before s at = live_pairs (slots_before (s.own ∷ s.chain) at.block at.pos)

  cut_rows : (rows : List (List (Slot K V))) (block pos : ℕ) (x : Slot K V) (ahead : List (K × V)) → pos < length (get_or rows block [])
      → live_pairs (drop (pos + 1) (get_or rows block []) ++ flattened (drop (suc block) rows)) ≡ ahead
      → live_pairs (flattened (set rows block (set (get_or rows block []) pos x)))
      ≡ live_pairs (slots_before rows block pos) ++ cons_option (live_pair x) ahead
  cut_rows rows block pos x ahead short is =
      ap live_pairs (flattened-set rows block pos x short)
      ∙ filter_map-append live_pair (slots_before rows block pos) (x ∷ slots_behind rows block pos)
      ∙ ap (λ l. live_pairs (slots_before rows block pos) ++ cons_option (live_pair x) l)
      (sym (ap (λ n. live_pairs (drop n (get_or rows block []) ++ flattened (drop (suc block) rows))) (add-one pos)) ∙ is)

  cut : (s : BucketView K V) (block pos : ℕ) (x : Slot K V) → pos < length (block_at s block) → pos < 32
      → pairs_in (with_slot_at s block pos x)
      ≡ live_pairs (slots_before (s.own ∷ s.chain) block pos)
      ++ cons_option (live_pair x) (pairs_ahead s (record { block = block; pos = pos }))
  cut s zero pos x short few = cut_rows (s.own ∷ s.chain) zero pos x _ short (sym (pairs_ahead-inside s zero pos few))
  cut s (suc i) pos x short few = cut_rows (s.own ∷ s.chain) (suc i) pos x _ short (sym (pairs_ahead-inside s (suc i) pos few))

  vacated : (s : BucketView K V) (block pos : ℕ) → pairs_in (slots_vacated_at s block pos) ≡ pairs_in (with_slot_at s block pos free)
  vacated s zero pos = refl
  vacated s (suc i) pos = refl

  module _ (kind : ℕ) (s : BucketView K V) (at : Place) (p : K × V) (kept : IsBucketOf kind s)
      (here : live_pair (slot_in s at) ≡ Some p) where
    at_slot : (x : Slot K V) → pairs_in (with_slot s at x) ≡ pairs_before s at ++ cons_option (live_pair x) (pairs_ahead s at)
    unfolding pairs_before
    at_slot x =
        let chain : IsChain s.chain = record { long = kept.blocks_long; few = kept.few } in
        let short = live_inside (block_at s at.block) at.pos (live_from_pair (slot_in s at) p here) in
        cut s at.block at.pos x short (omega (arith, short, block_short s at.block kept.own_long chain))

    -- another slot keeps what is before its pair and what is ahead of it
    pub pairs_in-with_slot : (x : Slot K V) (front : List (K × V)) → pairs_in s ≡ front ++ p ∷ pairs_ahead s at
        → pairs_in (with_slot s at x) ≡ front ++ cons_option (live_pair x) (pairs_ahead s at)
    pairs_in-with_slot x front is =
        let here_is = ap pairs_in (sym (with_slot-same s at.block at.pos)) ∙ at_slot (slot_in s at)
        ∙ ap (λ found. pairs_before s at ++ cons_option found (pairs_ahead s at)) here in
        let same = append_cancel_right (pairs_before s at) front (p ∷ pairs_ahead s at) (sym here_is ∙ is) in
        at_slot x ∙ ap (λ l. l ++ cons_option (live_pair x) (pairs_ahead s at)) same

    -- a tombstone removes the pair from between them
    pub pairs_in-slots_marked : (epoch : ℕ) (front : List (K × V)) → pairs_in s ≡ front ++ p ∷ pairs_ahead s at
        → pairs_in (slots_marked s at epoch) ≡ front ++ pairs_ahead s at
    pairs_in-slots_marked epoch front is =
        let none : live_pair (slot_marked epoch (slot_in s at)) ≡ None =
        ap (λ x. live_pair (slot_marked epoch x)) (live_is (slot_in s at) p here).1 in
        pairs_in-with_slot (slot_marked epoch (slot_in s at)) front is ∙ ap (λ found. front ++ cons_option found (pairs_ahead s at)) none

    -- so does a slot that is vacated
    pub pairs_vacated : (front : List (K × V)) → pairs_in s ≡ front ++ p ∷ pairs_ahead s at
        → pairs_in (slots_vacated s at) ≡ front ++ pairs_ahead s at
    pairs_vacated front is = vacated s at.block at.pos ∙ pairs_in-with_slot free front is

    -- and so does a removal
    pub pairs_in-slots_without : (front : List (K × V)) → pairs_in s ≡ front ++ p ∷ pairs_ahead s at
        → pairs_in (slots_without s at) ≡ front ++ pairs_ahead s at
    pairs_in-slots_without front is =
        let inside = there s at.block at.pos (live_inside (block_at s at.block) at.pos (live_from_pair (slot_in s at) p here)) in
        let linked = entries_unlinked (slots_vacated s at) at.block (omega (arith, length-vacated s at.block at.pos)) in
        sym (map-entries_in (slots_without s at)) ∙ ap (map (λ (e : (K × V) × ℕ). e.0)) linked ∙ map-entries_in (slots_vacated s at)
        ∙ pairs_vacated front is
