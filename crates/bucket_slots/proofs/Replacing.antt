-- A pair replaces another one: the slot was free in between, and no other entry changed.
use Rattle.bucket_slots.proofs.Words.{BucketView, IsPermutation, List, Place, Slot, Some, ap, block_at}
use Rattle.bucket_slots.proofs.Words.{entries_in, free, length, length-set, live, live_pair, refl, slot_at}
use Rattle.bucket_slots.proofs.Words.{slot_in, suc, with_slot_at, zero, ℕ, ◌<◌, ◌∙◌, ◌∷◌, ◌≡◌, is_live, true}
use Rattle.bucket_slots.proofs.ChangedSlots.{block_at-with_slot, live_inside, slot_in-with_slot}
use Rattle.bucket_slots.proofs.Entries.{entries_in-with_slot}
use Rattle.bucket_slots.proofs.PairsAfter.{entries_in-slots_vacated, live_from_pair}
use Rattle.bucket_slots.proofs.RoomAfter.{killed-slots_vacated}
use Rattle.bucket_slots.specs.Moving.{slots_vacated, slots_vacated_at}
use Rattle.bucket_slots.specs.Replacing.{slots_replaced}

module _ {K V : Type 0} where
  -- a vacated slot is free
  vacated_block : (s : BucketView K V) (block pos : ℕ) → block_at (slots_vacated_at s block pos) block
      ≡ block_at (with_slot_at s block pos free) block
  vacated_block s zero pos = refl
  vacated_block s (suc i) pos = refl

  pub vacated_free : (s : BucketView K V) (at : Place) → is_live (slot_in s at) ≡ true → slot_in (slots_vacated s at) at ≡ free
  vacated_free s at alive =
      let short = live_inside (block_at s at.block) at.pos alive in
      ap (λ row. slot_at row at.pos) (vacated_block s at.block at.pos) ∙ slot_in-with_slot s at free short

  pub vacated_within : (s : BucketView K V) (at : Place) → is_live (slot_in s at) ≡ true
      → at.pos < length (block_at (slots_vacated s at) at.block)
  vacated_within s at alive =
      let short = live_inside (block_at s at.block) at.pos alive in
      rw (vacated_block s at.block at.pos, block_at-with_slot s at.block at.pos free short, length-set) short

  killed_kept : (s : BucketView K V) (block pos : ℕ) (x : Slot K V) → (with_slot_at s block pos x).killed ≡ s.killed
  killed_kept s zero pos x = refl
  killed_kept s (suc i) pos x = refl

  -- one entry is replaced by another one
  pub record IsReplaced (s : BucketView K V) (p q : K × V) (b : ℕ) (after : BucketView K V) : Type 0 where
    pub byte : ℕ
    pub rest : List ((K × V) × ℕ)
    pub before_is : IsPermutation (entries_in s) ((p, byte) ∷ rest)
    pub after_is : IsPermutation ((q, b) ∷ rest) (entries_in after)
    pub alive : after.killed ≡ s.killed

  pub replaced : (s : BucketView K V) (at : Place) (p q : K × V) (b : ℕ) → live_pair (slot_in s at) ≡ Some p
      → IsReplaced s p q b (slots_replaced s at q b)
  replaced s at p q b here =
      let alive = live_from_pair (slot_in s at) p here in
      let t = slots_vacated s at in
      let out = entries_in-slots_vacated s at p here in
      record {
        byte = out.0;
        rest = entries_in t;
        before_is = out.1;
        after_is = rw (vacated_free s at alive) at (entries_in-with_slot t at.block at.pos (live q b) (vacated_within s at alive));
        alive = killed_kept t at.block at.pos (live q b) ∙ killed-slots_vacated s at;
      }
