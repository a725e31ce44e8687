-- The live pairs of a bucket after a call, up to order, and a slot or value that a call writes back.
use Rattle.bucket_slots.proofs.Words.{Bool, BucketView, IsPermutation, IsPermutation-map, List, Place, Slot, Some, [], all_free, ap, arith}
use Rattle.bucket_slots.proofs.Words.{block_at, bucket_with_value, entries_in, false, flattened, free, free_block, get_or, is_free, is_live}
use Rattle.bucket_slots.proofs.Words.{length, length-map, length-set, live, live_entries, live_entry, live_pair, map, map-append}
use Rattle.bucket_slots.proofs.Words.{option_map, pair_of, pairs_in, place_for_next, refl, rows_unlinked, set, set-get_or, set-set}
use Rattle.bucket_slots.proofs.Words.{slot_at, slot_in, slot_with_value, slots_unlinked_at, slots_vacated, slots_vacated_at, slots_with}
use Rattle.bucket_slots.proofs.Words.{slots_without, subst, suc, sym, true, with_free_blocks, with_place_made, with_slot_at, zero, ℕ, ◌++◌}
use Rattle.bucket_slots.proofs.Words.{◌<◌, ◌∙◌, ◌∷◌, ◌≡◌}
use Rattle.bucket_slots.specs.Evicting.{slot_to_evict, slots_evicted}
use Rattle.bucket_slots.proofs.BucketPlacing.{place_made, same_made}
use Rattle.bucket_slots.proofs.ChangedSlots.{block_at-with_slot, live_inside, slot_in-with_slot}
use Rattle.bucket_slots.proofs.Counting.{linked_row}
use Rattle.bucket_slots.proofs.Entries.{entries_in-with_slot, filter_map-chain, filter_map-free_blocks, live_entries-remove}
pub use Rattle.bucket_slots.proofs.Counting.{flattened-append, tally}
pub use Rattle.bucket_slots.proofs.Entries.{flat_map-exchanged, map-entries_in, regrouped, rotated}
use Rattle.bucket_slots.proofs.FirstPlaces.{live_occupied}

module _ {K V : Type 0} where
  pub length-entries_in : (s : BucketView K V) → length (entries_in s) ≡ length (pairs_in s)
  length-entries_in s = sym (length-map (entries_in s) (λ (e : (K × V) × ℕ). e.0)) ∙ ap length (map-entries_in s)

  -- the same exchange for pairs as for pairs with their bytes
  pub pairs_moved : (xs ys : List ((K × V) × ℕ)) (s t : BucketView K V) → IsPermutation (xs ++ entries_in s) (ys ++ entries_in t)
      → IsPermutation (map (λ (e : (K × V) × ℕ). e.0) xs ++ pairs_in s) (map (λ (e : (K × V) × ℕ). e.0) ys ++ pairs_in t)
  pairs_moved xs ys s t moved =
      let pair : (K × V) × ℕ → K × V = λ e. e.0 in
      let before : map pair (xs ++ entries_in s) ≡ map pair xs ++ pairs_in s =
      map-append pair xs (entries_in s) ∙ ap (λ l. map pair xs ++ l) (map-entries_in s) in
      let after : map pair (ys ++ entries_in t) ≡ map pair ys ++ pairs_in t =
      map-append pair ys (entries_in t) ∙ ap (λ l. map pair ys ++ l) (map-entries_in t) in
      subst (λ l. IsPermutation l (map pair ys ++ pairs_in t)) before
      (subst (IsPermutation (map pair (xs ++ entries_in s))) after (IsPermutation-map pair (xs ++ entries_in s) (ys ++ entries_in t) moved))

  -- a slot with a live pair is live, and not free
  pub live_is : (x : Slot K V) (p : K × V) → live_pair x ≡ Some p → (b : ℕ) × (x ≡ live p b)
  live_is (live q b) p e = let same : q ≡ p = cc in (b, ap (λ r. live r b) same)
  live_is x p e = absurd cc

  pub live_from_pair : (x : Slot K V) (p : K × V) → live_pair x ≡ Some p → is_live x ≡ true
  live_from_pair x p e = ap is_live (live_is x p e).1

  pub live_not_free : (x : Slot K V) → is_live x ≡ true → is_free x ≡ false
  live_not_free x h = (live_occupied x h).0

  -- the slot that is at a place is written there again
  pub with_slot-same : (s : BucketView K V) (block pos : ℕ)
      → with_slot_at s block pos (slot_in s (record { block = block; pos = pos })) ≡ s
  with_slot-same s zero pos = ap (λ own. record s { own = own }) (set-get_or s.own pos free)
  with_slot-same s (suc i) pos =
      ap (λ chain. record s { chain = chain })
      (ap (λ row. set s.chain i row) (set-get_or (get_or s.chain i []) pos free) ∙ set-get_or s.chain i [])

  -- and its value
  pub bucket_with_value-same : (s : BucketView K V) (at : Place) (p : K × V) → live_pair (slot_in s at) ≡ Some p
      → bucket_with_value s at p.1 ≡ s
  bucket_with_value-same s at p here =
      let is = live_is (slot_in s at) p here in
      let same : slot_with_value (slot_in s at) p.1 ≡ slot_in s at = ap (λ x. slot_with_value x p.1) is.1 ∙ sym is.1 in
      ap (λ x. with_slot_at s at.block at.pos x) same ∙ with_slot-same s at.block at.pos

  -- the pair of a slot whose key and value were read separately
  pub read_apart : (x : Slot K V) (k : K) (v : V) → is_live x ≡ true → option_map (λ p. p.0) (pair_of x) ≡ Some k
      → option_map (λ p. p.1) (pair_of x) ≡ Some v → live_pair x ≡ Some (k, v)
  read_apart (live p b) k v h first second =
      let same : p.0 ≡ k = cc in let other : p.1 ≡ v = cc in ap (λ a. Some (a, p.1)) same ∙ ap (λ c. Some (k, c)) other
  read_apart x k v h first second = cc

  -- an insertion adds its pair and nothing else
  pub entries_in-slots_with : (s : BucketView K V) (p : K × V) (b : ℕ)
      → IsPermutation ((p, b) ∷ entries_in s) (entries_in (slots_with s p b))
  entries_in-slots_with s p b =
      let made = with_place_made s in
      let at = place_for_next s in
      let vacant = place_made s in
      let put = entries_in-with_slot made at.block at.pos (live p b) vacant.within in
      let same = same_made entries_in s (filter_map-chain live_entry s (free_block ∷ s.chain) refl) in
      rw (← same) (rw vacant.slot at put)

  -- free blocks at the chain's end have no live pair
  pub entries_in-with_free_blocks : (s : BucketView K V) (n : ℕ) → entries_in (with_free_blocks s n) ≡ entries_in s
  entries_in-with_free_blocks s n = filter_map-free_blocks live_entry s n refl

  -- a vacated slot loses its pair, with its byte, and nothing else changes
  pub entries_in-slots_vacated_at : (s : BucketView K V) (block pos : ℕ) (p : K × V) (b : ℕ) → slot_at (block_at s block) pos ≡ live p b
      → IsPermutation (entries_in s) ((p, b) ∷ entries_in (slots_vacated_at s block pos))
  entries_in-slots_vacated_at s zero pos p b here =
      rw here at (entries_in-with_slot s zero pos free (live_inside s.own pos (ap is_live here)))
  entries_in-slots_vacated_at s (suc i) pos p b here =
      rw here at (entries_in-with_slot s (suc i) pos free (live_inside (block_at s (suc i)) pos (ap is_live here)))

  pub entries_in-slots_vacated : (s : BucketView K V) (at : Place) (p : K × V) → live_pair (slot_in s at) ≡ Some p
      → (b : ℕ) × IsPermutation (entries_in s) ((p, b) ∷ entries_in (slots_vacated s at))
  entries_in-slots_vacated s at p e = let h = live_is (slot_in s at) p e in (h.0, entries_in-slots_vacated_at s at.block at.pos p h.0 h.1)

  rows_gone : (rows : List (List (Slot K V))) (i : ℕ) (empty : Bool) → i < length rows → all_free (get_or rows i []) ≡ empty
      → live_entries (flattened (rows_unlinked rows i)) ≡ live_entries (flattened rows)
  rows_gone rows i true within e = rw e (live_entries-remove rows i within e)
  rows_gone rows i false within e = rw e refl

  -- and a block that is dropped has none
  pub entries_unlinked : (s : BucketView K V) (block : ℕ) → block < length (s.own ∷ s.chain)
      → entries_in (slots_unlinked_at s block) ≡ entries_in s
  entries_unlinked s zero within = refl
  entries_unlinked s (suc i) within =
      filter_map-chain live_entry s (rows_unlinked s.chain i) (rows_gone s.chain i (all_free (get_or s.chain i [])) (omega arith) refl)

  -- a block with a position is one of the bucket's
  pub there : (s : BucketView K V) (block pos : ℕ) → pos < length (block_at s block) → block < length (s.own ∷ s.chain)
  there s zero pos h = omega arith
  there s (suc i) pos h = omega (arith, linked_row s.chain i pos h)

  pub length-vacated : (s : BucketView K V) (block pos : ℕ) → length (slots_vacated_at s block pos).chain ≡ length s.chain
  length-vacated s zero pos = refl
  length-vacated s (suc i) pos = length-set s.chain i (set (get_or s.chain i []) pos free)

  -- a removal removes its pair and nothing else
  pub entries_in-slots_without : (s : BucketView K V) (at : Place) (p : K × V) → live_pair (slot_in s at) ≡ Some p
      → (b : ℕ) × IsPermutation (entries_in s) ((p, b) ∷ entries_in (slots_without s at))
  entries_in-slots_without s at p e =
      let h = entries_in-slots_vacated s at p e in
      let within = there s at.block at.pos (live_inside (block_at s at.block) at.pos (live_from_pair (slot_in s at) p e)) in
      let same = entries_unlinked (slots_vacated s at) at.block (omega (arith, length-vacated s at.block at.pos)) in
      (h.0, rw same h.1)

  -- an eviction leaves the pairs that a removal of its slot leaves
  pub entries_in-slots_evicted : (s : BucketView K V) (p : K × V) → live_pair (slot_at s.own (slot_to_evict s)) ≡ Some p
      → (b : ℕ) × IsPermutation (entries_in s) ((p, b) ∷ entries_in (slots_evicted s))
  entries_in-slots_evicted s p e = entries_in-slots_vacated s (record { block = 0; pos = slot_to_evict s }) p e

  set_again : (s : BucketView K V) (block pos : ℕ) (x y : Slot K V) → pos < length (block_at s block)
      → with_slot_at (with_slot_at s block pos x) block pos y ≡ with_slot_at s block pos y
  set_again s zero pos x y short = ap (λ own. record s { own = own }) (set-set s.own pos x y)
  set_again s (suc i) pos x y short =
      let row = get_or s.chain i [] in
      let changed = set s.chain i (set row pos x) in
      let again = ap (λ r. set changed i (set r pos y)) (block_at-with_slot s (suc i) pos x short)
      ∙ set-set s.chain i (set row pos x) (set (set row pos x) pos y) ∙ ap (set s.chain i) (set-set row pos x y) in
      ap (λ chain. record s { chain = chain }) again

  -- the same with the pairs that stay
  pub record IsRewritten (s : BucketView K V) (p : K × V) (w : V) (after : BucketView K V) : Type 0 where
    pub byte : ℕ
    pub rest : List ((K × V) × ℕ)
    pub before_is : IsPermutation (entries_in s) ((p, byte) ∷ rest)
    pub after_is : IsPermutation (((p.0, w), byte) ∷ rest) (entries_in after)

  rewritten_at : (s : BucketView K V) (block pos : ℕ) (p : K × V) (b : ℕ) (w : V) → slot_at (block_at s block) pos ≡ live p b
      → IsRewritten s p w (with_slot_at s block pos (slot_with_value (slot_at (block_at s block) pos) w))
  rewritten_at s block pos p b w here =
      let short = live_inside (block_at s block) pos (ap is_live here) in
      let freed = with_slot_at s block pos free in
      let row = block_at-with_slot s block pos free short in
      let vacant : slot_at (block_at freed block) pos ≡ free = slot_in-with_slot s (record { block = block; pos = pos }) free short in
      let within : pos < length (block_at freed block) = rw (row, length-set) short in
      record {
        byte = b;
        rest = entries_in freed;
        before_is = rw here at (entries_in-with_slot s block pos free short);
        after_is = rw (here, ← set_again s block pos free (live (p.0, w) b) short)
            (rw vacant at (entries_in-with_slot freed block pos (live (p.0, w) b) within));
      }

  pub rewritten : (s : BucketView K V) (at : Place) (p : K × V) (w : V) → live_pair (slot_in s at) ≡ Some p
      → IsRewritten s p w (bucket_with_value s at w)
  rewritten s at p w e = let h = live_is (slot_in s at) p e in rewritten_at s at.block at.pos p h.0 w h.1

  -- the same for pairs only
  pub pairs_in-slots_vacated : (s : BucketView K V) (at : Place) (p : K × V) → live_pair (slot_in s at) ≡ Some p
      → IsPermutation (pairs_in s) (p ∷ pairs_in (slots_vacated s at))
  pairs_in-slots_vacated s at p e =
      let h = entries_in-slots_vacated s at p e in pairs_moved [] ((p, h.0) ∷ []) s (slots_vacated s at) h.1

  pub pairs_in-slots_without : (s : BucketView K V) (at : Place) (p : K × V) → live_pair (slot_in s at) ≡ Some p
      → IsPermutation (pairs_in s) (p ∷ pairs_in (slots_without s at))
  pairs_in-slots_without s at p e =
      let h = entries_in-slots_without s at p e in pairs_moved [] ((p, h.0) ∷ []) s (slots_without s at) h.1
