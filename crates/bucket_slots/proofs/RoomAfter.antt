-- The free slots of a bucket after a call, what is ahead of a pointer, and that no call but `kill` makes it killed.
use Rattle.bucket_slots.proofs.Words.{Bool, BucketView, Err, INDEX, IsRefused, None, Ok, OnErr, Option, Place, Result, Slot, Some, []}
use Rattle.bucket_slots.proofs.Words.{all_slots, ap, arith, bucket_with_value, false, first_place, flattened, free_block, free_len_in}
use Rattle.bucket_slots.proofs.Words.{if◌then◌else◌, is_free, is_some, length, live, live_pairs, looks_at_marks, nil_from_length, pairs_in}
use Rattle.bucket_slots.proofs.Words.{place_for_next, refl, replicate, slots_after_insertion, slots_killed, slots_marked, slots_unlinked_at}
use Rattle.bucket_slots.proofs.Words.{slots_vacated, slots_vacated_at, slots_with, slots_without, slots_without_expired}
use Rattle.bucket_slots.proofs.Words.{slots_without_free_end, suc, sum_by-append, sum_by-le, true, with_free_blocks, with_place_made}
use Rattle.bucket_slots.proofs.Words.{with_slot_at, zero, ℕ, ◌*◌, ◌++◌, ◌+◌, ◌<◌, ◌==◌, ◌∙◌, ◌∷◌, ◌≡◌}
use Rattle.bucket_slots.proofs.BucketPlacing.{place_made, same_made}
use Rattle.bucket_slots.proofs.Counting.{free_len-blocks, length-live_pairs-append, sum_by-with_slot, tally}
use Rattle.bucket_slots.proofs.FirstPlaces.{first_from-None}
pub use Rattle.bucket_slots.proofs.AheadAfterRemoval.{pairs_ahead-slots_vacated}

-- the two parts of a failure
pub refused_unchanged : {A E K V : Type 0} (result : Result A E) (old new room : BucketView K V) → OnErr result (IsRefused old new room)
    → OnErr result (new ≡ old)
refused_unchanged (Ok x) old new room refused = tt
refused_unchanged (Err e) old new room refused = refused.unchanged

pub refused_full : {A E K V : Type 0} (result : Result A E) (old new room : BucketView K V) → OnErr result (IsRefused old new room)
    → OnErr result (first_place is_free room ≡ None)
refused_full (Ok x) old new room refused = tt
refused_full (Err e) old new room refused = refused.no_free_slot

module _ {K V : Type 0} where
  -- if no place is free, no slot is
  pub free_len_in-none : (s : BucketView K V) → first_place is_free s ≡ None → free_len_in s ≡ 0
  free_len_in-none s none =
      let one : Slot K V → ℕ = λ x. tally (is_free x) in
      let each = first_from-None is_free 0 (s.own ∷ s.chain) none in
      let few = sum_by-le one 0 (all_slots s) (λ k d below. omega (arith, ap tally (each k d below))) in
      omega arith

  placed : (s : BucketView K V) (pair : K × V) (byte : ℕ) (found : Option Place) → first_place is_free s ≡ found → 0 < free_len_in s
      → free_len_in (slots_with s pair byte) + 1 ≡ free_len_in s
  placed s pair byte None e some = absurd (omega (arith, free_len_in-none s e))
  placed s pair byte (Some at) e some =
      let made = with_place_made s in
      let next = place_for_next s in
      let vacant = place_made s in
      let same : made ≡ s = ap (λ (f : Option Place). if is_some f then s else record s { chain = free_block ∷ s.chain }) e in
      let put = sum_by-with_slot (λ (x : Slot K V). tally (is_free x)) made next.block next.pos (live pair byte) vacant.within in
      omega (arith, ap free_len_in same, ap (λ (x : Slot K V). tally (is_free x)) vacant.slot)

  -- placing a pair takes a free slot
  pub free_len_in-slots_with : (s : BucketView K V) (pair : K × V) (byte : ℕ) → 0 < free_len_in s
      → free_len_in (slots_with s pair byte) + 1 ≡ free_len_in s
  free_len_in-slots_with s pair byte some = placed s pair byte (first_place is_free s) refl some

  -- a block adds four free slots
  pub free_len_in-with_free_blocks : (s : BucketView K V) (n : ℕ) → free_len_in (with_free_blocks s n) ≡ free_len_in s + 4 * n
  free_len_in-with_free_blocks s n =
      let parts = sum_by-append (λ (x : Slot K V). tally (is_free x)) s.own in
      omega (arith, parts (flattened s.chain), parts (flattened (s.chain ++ replicate n free_block)), free_len-blocks s.chain n)

  -- no call but `kill` changes whether a bucket is killed
  killed-with_slot_at : (s : BucketView K V) (block pos : ℕ) (x : Slot K V) → (with_slot_at s block pos x).killed ≡ s.killed
  killed-with_slot_at s zero pos x = refl
  killed-with_slot_at s (suc i) pos x = refl

  pub killed-slots_with : (s : BucketView K V) (pair : K × V) (byte : ℕ) → (slots_with s pair byte).killed ≡ s.killed
  killed-slots_with s pair byte =
      let next = place_for_next s in
      killed-with_slot_at (with_place_made s) next.block next.pos (live pair byte) ∙ same_made (λ (t : BucketView K V). t.killed) s refl

  killed_placed : (looks : Bool) (keeps : ℕ → Bool) (s : BucketView K V) (pair : K × V) (byte : ℕ)
      → (if looks then slots_without_free_end (slots_with (slots_without_expired keeps s) pair byte) else slots_with s pair byte).killed
      ≡ s.killed
  killed_placed true keeps s pair byte = killed-slots_with (slots_without_expired keeps s) pair byte
  killed_placed false keeps s pair byte = killed-slots_with s pair byte

  pub killed-slots_after_insertion : (kind : ℕ) (keeps : ℕ → Bool) (s : BucketView K V) (pair : K × V) (byte : ℕ)
      → (slots_after_insertion kind keeps s pair byte).killed ≡ s.killed
  killed-slots_after_insertion kind keeps s pair byte = killed_placed (looks_at_marks kind s) keeps s pair byte

  killed_vacated : (s : BucketView K V) (block pos : ℕ) → (slots_vacated_at s block pos).killed ≡ s.killed
  killed_vacated s zero pos = refl
  killed_vacated s (suc i) pos = refl

  pub killed-slots_vacated : (s : BucketView K V) (at : Place) → (slots_vacated s at).killed ≡ s.killed
  killed-slots_vacated s at = killed_vacated s at.block at.pos

  killed_unlinked : (s : BucketView K V) (block : ℕ) → (slots_unlinked_at s block).killed ≡ s.killed
  killed_unlinked s zero = refl
  killed_unlinked s (suc i) = refl

  pub killed-slots_without : (s : BucketView K V) (at : Place) → (slots_without s at).killed ≡ s.killed
  killed-slots_without s at = killed_unlinked (slots_vacated s at) at.block ∙ killed-slots_vacated s at

  pub killed-slots_marked : (s : BucketView K V) (at : Place) (epoch : ℕ) → (slots_marked s at epoch).killed ≡ s.killed
  killed-slots_marked s at epoch = killed-with_slot_at s at.block at.pos _

  pub killed-bucket_with_value : (s : BucketView K V) (at : Place) (value : V) → (bucket_with_value s at value).killed ≡ s.killed
  killed-bucket_with_value s at value = killed-with_slot_at s at.block at.pos _

  pairs_left : (s : BucketView K V) (index : Bool) → pairs_in s ≡ []
      → pairs_in (record s { chain = if index then s.chain else []; killed = true }) ≡ []
  pairs_left s true none = none
  pairs_left s false none =
      let all = ap length none in
      nil_from_length (live_pairs (s.own ++ []))
      (omega (arith, length-live_pairs-append s.own [], length-live_pairs-append s.own (flattened s.chain)))

  -- a bucket that is killed had no pair, and has none
  pub pairs_in-slots_killed : (kind : ℕ) (s : BucketView K V) → pairs_in s ≡ [] → pairs_in (slots_killed kind s) ≡ []
  pairs_in-slots_killed kind s none = pairs_left s (kind == INDEX) none
