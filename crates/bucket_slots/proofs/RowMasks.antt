-- What the bitmaps of a row state of its slots.
use Rattle.bucket_slots.proofs.Words.{Bool, IsLowest, IsMaskOf, IsRow, List, Option, SetsBit, Slot, Some, ap, arith, bit_and, bit_at}
use Rattle.bucket_slots.proofs.Words.{bit_at-zero, bit_at_and, common_steps, cond, false, free, get_or, get_or-map, get_or-set_other}
use Rattle.bucket_slots.proofs.Words.{get_or-set_same, get_or_default, has_byte, if◌then◌else◌, is_free, is_live, is_marked, is_some}
use Rattle.bucket_slots.proofs.Words.{is_match, length, live, map, map-set, map_fixed, marked, min, not, pair_of, refl, row_slots, set}
use Rattle.bucket_slots.proofs.Words.{set-get_or, slot_at, slot_of, slot_without_expired, sym, true, ℕ, ◌&&◌, ◌-◌, ◌/◌, ◌<◌, ◌==◌}
use Rattle.bucket_slots.proofs.Words.{◌^◌, ◌∙◌, ◌≡◌}
use Rattle.bucket_slots.specs.Layout.Expiring.{IsExpiring}
use Rattle.bucket_slots.proofs.Masks.{IsLeft-first, IsLeft-next, IsMaskOf-alike, IsMaskOf-and_not, IsMaskOf-from, IsMaskOf-not}
use Rattle.bucket_slots.proofs.Masks.{bit-mask, within}
use Rattle.bucket_slots.proofs.RowSlots.{length-row_slots, slot_held}

twice : (b : Bool) → b ≡ not (not b)
twice true = refl
twice false = refl

module _ {K V : Type 0} where
  is_live_by : (slot : Slot K V) → (not (is_free slot) && not (is_marked slot)) ≡ is_live slot
  is_live_by free = refl
  is_live_by slot = refl

  -- a slot with a matching byte is live
  pub candidate_live : (slot : Slot K V) (byte : ℕ) → has_byte byte slot ≡ true → is_live slot ≡ true
  candidate_live (live pair own) byte is = refl
  candidate_live slot byte is = cc

  candidate_bit : (slot : Slot K V) (byte own bit : ℕ) → slot_of (pair_of slot) own (cond (is_marked slot) 1 0) ≡ slot
      → (is_live slot ≡ true → bit ≡ cond (own == byte) 1 0) → min bit (cond (is_live slot) 1 0) ≡ cond (has_byte byte slot) 1 0
  candidate_bit (live pair stored) byte own bit whole compared =
      let same : own ≡ stored = cc in
      rw (compared refl, same) (grind (arith, common_steps))
  candidate_bit slot byte own bit whole compared = omega arith

  module _ (len : ℕ) (places : List (Option (K × V))) (bytes : List ℕ) (occupied marks : ℕ) (slots : List (Slot K V))
      (row : IsRow len places bytes occupied marks) (view : row_slots places bytes marks ≡ slots) where
    pub length-slots : length slots ≡ len
    length-slots = rw (← view) (length-row_slots places bytes marks ∙ row.long)

    -- the filled places are the slots that aren't free
    pub occupied_mask : IsMaskOf (λ slot. not (is_free slot)) slots occupied
    occupied_mask = IsMaskOf-from (λ slot. not (is_free slot)) slots occupied free refl (λ i.
        (slot_held len places bytes occupied marks slots row view i).filled ∙ ap (λ b. cond b 1 0)
        (twice (is_some (pair_of (slot_at slots i)))))

    -- the others are free
    pub free_mask : occupied < 2 ^ 32 → IsMaskOf is_free slots (bit_and (2 ^ 32 - 1 - occupied) ((2 ^ 32 - 1) / 2 ^ (32 - len)))
    free_mask fits = IsMaskOf-not is_free slots occupied occupied_mask len free row.few fits length-slots

    pub mark_mask : IsMaskOf is_marked slots marks
    mark_mask = rw (← view) row.marked

    -- the occupied slots without tombstones are the live ones
    pub live_mask : marks < 2 ^ 32 → IsMaskOf is_live slots (bit_and occupied (2 ^ 32 - 1 - marks))
    live_mask fits =
        IsMaskOf-alike (λ slot. not (is_free slot) && not (is_marked slot)) is_live slots _ is_live_by
        (IsMaskOf-and_not (λ slot. not (is_free slot)) is_marked slots occupied marks free refl refl
        (omega (arith, length-slots, row.few)) fits occupied_mask mark_mask)

    -- those of them whose byte matches
    pub candidate_mask : (byte mask : ℕ) → marks < 2 ^ 32 → IsMaskOf (λ own. own == byte) bytes mask
        → IsMaskOf (has_byte byte) slots (bit_and (bit_and mask occupied) (2 ^ 32 - 1 - marks))
    candidate_mask byte mask fits match = IsMaskOf-from (has_byte byte) slots _ free refl (λ i.
        let held = slot_held len places bytes occupied marks slots row view i in
        let alive = bit-mask is_live slots _ (live_mask fits) i free refl in
        let matched : min (bit_at mask i) (cond (is_live (slot_at slots i)) 1 0) ≡ cond (has_byte byte (slot_at slots i)) 1 0 =
        candidate_bit (slot_at slots i) byte (get_or bytes i 0) (bit_at mask i) held.whole (λ h.
        match i ∙ ap (λ b. cond b 1 0) (get_or-map (λ own. own == byte) bytes i 0 false
        (omega (arith, row.bytes_long, length-slots, within is_live slots i free refl h)))) in
        let all = bit_at_and (bit_and mask occupied) (2 ^ 32 - 1 - marks) i in
        omega (arith, all, bit_at_and mask occupied i, bit_at_and occupied (2 ^ 32 - 1 - marks) i))

  -- a candidate matches exactly if its key does
  pub candidate_matched : (matches now : K → Bool) (byte : ℕ) (slot : Slot K V) (key : K) (value : V) (said : Bool)
      → has_byte byte slot ≡ true
      → pair_of slot ≡ Some (key, value) → now ≡ matches → said ≡ now key → is_match matches byte slot ≡ said
  candidate_matched matches now byte free key value said hit read same answer = cc
  candidate_matched matches now byte (live pair own) key value said hit read same answer =
      let here : pair ≡ (key, value) = cc in rw (hit, here, ← same) (sym answer)
  candidate_matched matches now byte (marked pair own) key value said hit read same answer = cc

  -- a slot that isn't a candidate doesn't match
  pub unmatched : (test : K → Bool) (byte : ℕ) (slot : Slot K V) → has_byte byte slot ≡ false → is_match test byte slot ≡ false
  unmatched test byte free other = refl
  unmatched test byte (live pair own) other = rw other refl
  unmatched test byte (marked pair own) other = refl

module _ {K V : Type 0} (keeps : ℕ → Bool) where
  -- a slot that is freed if it is expired isn't expired then, nor is a slot without a tombstone
  freed_once : (slot : Slot K V) → slot_without_expired keeps (slot_without_expired keeps slot) ≡ slot_without_expired keeps slot
  freed_once free = refl
  freed_once (live pair byte) = refl
  freed_once (marked pair byte) = at_byte (keeps byte) refl
    where
      at_byte : (kept : Bool) → keeps byte ≡ kept
          → slot_without_expired keeps (if kept then marked pair byte else free) ≡ (if kept then marked pair byte else free)
      at_byte true e = rw e refl
      at_byte false e = refl

  unmarked_stays : (slot : Slot K V) → is_marked slot ≡ false → slot_without_expired keeps slot ≡ slot
  unmarked_stays (marked pair byte) unmarked = cc
  unmarked_stays slot unmarked = refl

  -- a tombstone stays or is freed, as the test decides by its byte
  pub expired_is : (slot : Slot K V) (byte : ℕ) (kept : Bool) → is_marked slot ≡ true
      → slot_of (pair_of slot) byte (cond (is_marked slot) 1 0) ≡ slot
      → keeps byte ≡ kept → slot_without_expired keeps slot ≡ (if kept then slot else free)
  expired_is (marked pair own) byte kept is whole e = let same : own ≡ byte = cc in rw (same, e) refl
  expired_is slot byte kept is whole e = cc

  -- at first the tombstones are left
  pub IsExpiring-first : (slots : List (Slot K V)) (bits : ℕ) → IsMaskOf is_marked slots bits → IsExpiring keeps slots slots bits
  IsExpiring-first slots bits mask = record {
    waiting = IsLeft-first is_marked (λ slot. slot_without_expired keeps slot ≡ slot) free slots bits refl unmarked_stays mask;
    same = refl;
  }

  -- one of the remaining slots is freed, if it is expired
  pub IsExpiring-next : (old new : List (Slot K V)) (left pos after : ℕ) → IsExpiring keeps old new left → IsLowest left pos
      → SetsBit left pos 0 after → IsExpiring keeps old (set new pos (slot_without_expired keeps (slot_at new pos))) after
  IsExpiring-next old new left pos after x low s =
      let slot = slot_without_expired keeps (slot_at new pos) in
      let below = within is_marked new pos free refl (x.waiting.waiting pos low.set) in
      let there = get_or-set_same new pos slot free below in
      let as_before = freed_once (slot_at new pos) ∙ sym (get_or-map (slot_without_expired keeps) new pos free free below) in
      record {
        waiting =
            IsLeft-next is_marked (λ slot. slot_without_expired keeps slot ≡ slot) free new (set new pos slot) left pos after x.waiting s
            (λ i other. get_or-set_other new pos i slot free other) (rw there (freed_once (slot_at new pos)));
        same = rw (map-set, as_before, set-get_or) x.same;
      }

  pub IsExpiring-last : (old new : List (Slot K V)) → IsExpiring keeps old new 0 → new ≡ map (slot_without_expired keeps) old
  IsExpiring-last old new x =
      sym (map_fixed (slot_without_expired keeps) new
      (λ i d below. rw (get_or_default new i d free below) (x.waiting.done i (bit_at-zero i)))) ∙ x.same
