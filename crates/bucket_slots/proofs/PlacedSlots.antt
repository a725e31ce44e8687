-- A placement and a vacated slot: the own slots, the pairs of the chain and the LRU list after it.
use Rattle.bucket_slots.proofs.Words.{All, All-contains, All-head, All-tail, BucketView, Contains, Contains-append_left}
use Rattle.bucket_slots.proofs.Words.{Contains-append_right, Contains-from_any, Contains-permutation, IsBucketOf, IsPermutation}
use Rattle.bucket_slots.proofs.Words.{IsRecencyOrder, IsTrue, List, Slot, [], ap, arith, block_at, eqb-true, false, false_from_ne_true}
use Rattle.bucket_slots.proofs.Words.{false≢true, flattened, free, get_or, get_or-set_other, get_or-set_same, is_free, is_listed, is_live}
use Rattle.bucket_slots.proofs.Words.{length, list_any_at, listed_pairs, live, live_pair, live_pairs, map, ne_eqb, or_from, place_for_next}
use Rattle.bucket_slots.proofs.Words.{refl, rows_with, slot_at, slots_vacated_at, slots_with, suc, sym, take, true, true≢false}
use Rattle.bucket_slots.proofs.Words.{with_place_made, with_slot_at, zero, ℕ, ◌<◌, ◌==◌, ◌∙◌, ◌∷◌, ◌≡◌}
use Rattle.bucket_slots.proofs.BucketPlacing.{place_made, same_made}
use Rattle.bucket_slots.proofs.ChangedSlots.{live_inside}
use Rattle.bucket_slots.proofs.Entries.{rows-exchanged}
use Rattle.bucket_slots.proofs.PairsAfter.{live_not_free}
use Rattle.bucket_slots.proofs.Recency.Orders.{eqb-same, listed_apart, listed_in_range, newest_once, older_order}

map_alike : {A : Type 0} (f g : ℕ → A) (items : List ℕ) → All (λ item. f item ≡ g item) items → map f items ≡ map g items
map_alike f g [] all = refl
map_alike f g (item ∷ items) all =
    let alike : ℕ → Type 0 = λ item. f item ≡ g item in
    let rest = map_alike f g items (All-tail alike item items all) in
    ap (λ first. first ∷ map f items) (All-head alike item items all) ∙ ap (λ those. g item ∷ those) rest

-- the next slot of an order isn't among those before it
pub next_is_new : (order : List ℕ) (k : ℕ) → IsRecencyOrder order → k < length order → is_listed (take k order) (get_or order k 0) ≡ false
next_is_new [] k is_order below = absurd (omega arith)
next_is_new (first ∷ order) zero is_order below = refl
next_is_new (first ∷ order) (suc k) is_order below =
    let next = get_or order k 0 in
    let within : k < length order = omega arith in
    let listed = list_any_at (λ slot. next == slot) order k 0 within (eqb-same next) in
    let apart = listed_apart order next first listed (newest_once first order is_order) in
    or_from (next == first) (is_listed (take k order) next) (ne_eqb next first apart)
    (next_is_new order k (older_order first order is_order) within)

module _ {K V : Type 0} where
  -- a free slot is replaced by another one

  own_still : (s : BucketView K V) (block pos : ℕ) (x : Slot K V) (slot : ℕ) → slot_at (block_at s block) pos ≡ free
      → is_free (slot_at s.own slot) ≡ false → slot_at (with_slot_at s block pos x).own slot ≡ slot_at s.own slot
  own_still s zero pos x slot vacant occupied =
      get_or-set_other s.own pos slot x free (λ same. true≢false (ap is_free (sym vacant) ∙ rw (← same) occupied))
  own_still s (suc i) pos x slot vacant occupied = refl

  own_here : (s : BucketView K V) (block pos : ℕ) (x : Slot K V) → block ≡ 0 → pos < length (block_at s block)
      → slot_at (with_slot_at s block pos x).own pos ≡ x
  own_here s zero pos x own within = get_or-set_same s.own pos x free within
  own_here s (suc i) pos x own within = absurd (omega arith)

  own_free : (s : BucketView K V) (block pos : ℕ) → block ≡ 0 → slot_at (block_at s block) pos ≡ free → slot_at s.own pos ≡ free
  own_free s zero pos own vacant = vacant
  own_free s (suc i) pos own vacant = absurd (omega arith)

  listed_still : (s : BucketView K V) (block pos : ℕ) (x : Slot K V) → (with_slot_at s block pos x).listed ≡ s.listed
  listed_still s zero pos x = refl
  listed_still s (suc i) pos x = refl

  chain_more : (s : BucketView K V) (i pos : ℕ) (p : K × V) (b : ℕ) → pos < length (get_or s.chain i [])
      → slot_at (get_or s.chain i []) pos ≡ free
      → IsPermutation (p ∷ live_pairs (flattened s.chain)) (live_pairs (flattened (rows_with s.chain i pos (live p b))))
  chain_more s i pos p b short vacant = rw vacant at (rows-exchanged live_pair s.chain i pos (live p b) free short)

  chain_still : (s : BucketView K V) (block pos : ℕ) (p q : K × V) (b : ℕ) → pos < length (block_at s block)
      → slot_at (block_at s block) pos ≡ free → Contains (live_pairs (flattened s.chain)) q
      → Contains (live_pairs (flattened (with_slot_at s block pos (live p b)).chain)) q
  chain_still s zero pos p q b short vacant has = has
  chain_still s (suc i) pos p q b short vacant has =
      Contains-permutation _ _ q (chain_more s i pos p b short vacant)
      (Contains-append_right (p ∷ []) (live_pairs (flattened s.chain)) q has)

  chain_here : (s : BucketView K V) (block pos : ℕ) (p : K × V) (b : ℕ) → (block ≡ 0 → ⊥) → pos < length (block_at s block)
      → slot_at (block_at s block) pos ≡ free → Contains (live_pairs (flattened (with_slot_at s block pos (live p b)).chain)) p
  chain_here s zero pos p b other short vacant = absurd (other refl)
  chain_here s (suc i) pos p b other short vacant =
      Contains-permutation _ _ p (chain_more s i pos p b short vacant)
      (Contains-append_left (p ∷ []) (live_pairs (flattened s.chain)) p (0, omega arith, refl))

  -- a pair is placed

  module _ (s : BucketView K V) (p : K × V) (b : ℕ) where
    same_own : (with_place_made s).own ≡ s.own
    same_own = same_made (λ (t : BucketView K V). t.own) s refl

    -- every occupied own slot is as it was
    pub own_kept : (slot : ℕ) → is_free (slot_at s.own slot) ≡ false → slot_at (slots_with s p b).own slot ≡ slot_at s.own slot
    own_kept slot occupied =
        let next = place_for_next s in
        own_still (with_place_made s) next.block next.pos (live p b) slot (place_made s).slot (rw same_own occupied)
        ∙ ap (λ own. slot_at own slot) same_own

    -- if the pair was given an own slot, it is in that slot
    pub own_put : (place_for_next s).block ≡ 0 → slot_at (slots_with s p b).own (place_for_next s).pos ≡ live p b
    own_put own =
        let next = place_for_next s in own_here (with_place_made s) next.block next.pos (live p b) own (place_made s).within

    -- which was free
    pub was_free : (place_for_next s).block ≡ 0 → slot_at s.own (place_for_next s).pos ≡ free
    was_free own =
        let next = place_for_next s in
        ap (λ slots. slot_at slots next.pos) (sym same_own)
        ∙ own_free (with_place_made s) next.block next.pos own (place_made s).slot

    pub listed-slots_with : (slots_with s p b).listed ≡ s.listed
    listed-slots_with =
        let next = place_for_next s in
        listed_still (with_place_made s) next.block next.pos (live p b) ∙ same_made (λ (t : BucketView K V). t.listed) s refl

    -- the pairs of the chain stay there
    pub chain_kept : (q : K × V) → Contains (live_pairs (flattened s.chain)) q
        → Contains (live_pairs (flattened (slots_with s p b).chain)) q
    chain_kept q has =
        let next = place_for_next s in
        chain_still (with_place_made s) next.block next.pos p q b (place_made s).within (place_made s).slot
        (rw (same_made (λ (t : BucketView K V). live_pairs (flattened t.chain)) s refl) has)

    -- and if it wasn't, it is in the chain
    pub chain_put : ((place_for_next s).block ≡ 0 → ⊥) → Contains (live_pairs (flattened (slots_with s p b).chain)) p
    chain_put other =
        let next = place_for_next s in
        chain_here (with_place_made s) next.block next.pos p b other (place_made s).within (place_made s).slot

    -- the listed slots are live, so they keep their pairs
    pub listed_pairs-slots_with : (kind : ℕ) → IsBucketOf kind s → listed_pairs (slots_with s p b) ≡ listed_pairs s
    listed_pairs-slots_with kind laws =
        let after = slots_with s p b in
        let alike : All (λ slot. slot_at after.own slot ≡ slot_at s.own slot) s.listed =
        λ k d below. own_kept (get_or s.listed k d) (live_not_free _ (laws.listed_live k d below)) in
        ap (λ order. live_pairs (map (slot_at after.own) order)) listed-slots_with
        ∙ ap live_pairs (map_alike (slot_at after.own) (slot_at s.own) s.listed alike)

  pub listed_below : (kind : ℕ) (s : BucketView K V) (slot : ℕ) → IsBucketOf kind s → is_listed s.listed slot ≡ true → slot < 32
  listed_below kind s slot laws listed = listed_in_range s.listed slot laws.listed_once listed

  -- a free slot isn't listed
  pub free_unlisted : (kind : ℕ) (s : BucketView K V) (slot : ℕ) → IsBucketOf kind s → slot_at s.own slot ≡ free
      → is_listed s.listed slot ≡ false
  free_unlisted kind s slot laws vacant =
      let lives : ℕ → Type 0 = λ at. IsTrue (is_live (slot_at s.own at)) in
      false_from_ne_true (is_listed s.listed slot) (λ listed.
      let alive : is_live (slot_at s.own slot) ≡ true =
      All-contains lives s.listed slot laws.listed_live (Contains-from_any eqb-true slot s.listed listed) in
      false≢true (ap is_live (sym vacant) ∙ alive))

  -- a slot is vacated: another own slot is as it was, and that one is free
  pub own-slots_vacated : (s : BucketView K V) (block pos slot : ℕ) → (block ≡ 0 → slot ≡ pos → ⊥)
      → slot_at (slots_vacated_at s block pos).own slot ≡ slot_at s.own slot
  own-slots_vacated s zero pos slot apart = get_or-set_other s.own pos slot free free (apart refl)
  own-slots_vacated s (suc i) pos slot apart = refl

  pub own_vacated : (s : BucketView K V) (block pos : ℕ) → block ≡ 0 → is_live (slot_at s.own pos) ≡ true
      → slot_at (slots_vacated_at s block pos).own pos ≡ free
  own_vacated s zero pos own alive = get_or-set_same s.own pos free free (live_inside s.own pos alive)
  own_vacated s (suc i) pos own alive = absurd (omega arith)
