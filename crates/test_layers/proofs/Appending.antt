-- A pair that was just inserted into a cache isn't listed.
use Rattle.std.proofs.Common.{ℕ, ◌≡◌, Bool, ap, ◌∙◌}
use Rattle.bucket_slots.specs.BucketLaws.{IsBucketOf}
use Rattle.bucket_slots.specs.BucketView.{BucketView, Place}
use Rattle.bucket_slots.specs.Clearing.{slots_after_insertion, slots_for_insertion}
use Rattle.bucket_slots.specs.Evicting.{IsUnlisted}
use Rattle.bucket_slots.specs.Placing.{place_for_next, slots_with}
use Rattle.bucket_slots.specs.Recency.{is_listed}
use Rattle.bucket_slots.proofs.PlacedSlots.{free_unlisted, listed-slots_with, was_free}

module _ {K V : Type 0} where
  placed_unlisted : (kind : ℕ) (s : BucketView K V) (pair : K × V) (byte : ℕ) → IsBucketOf kind s
      → IsUnlisted (slots_with s pair byte) (place_for_next s)
  placed_unlisted kind s pair byte laws = λ own.
      ap (λ order. is_listed order (place_for_next s).pos) (listed-slots_with s pair byte)
      ∙ free_unlisted kind s (place_for_next s).pos laws (was_free s pair byte own)

  pub inserted_unlisted : (kind : ℕ) (keeps : ℕ → Bool) (s after : BucketView K V) (pair : K × V) (byte : ℕ) (at : Place) → kind ≡ 67
      → IsBucketOf kind s → at ≡ place_for_next (slots_for_insertion kind keeps s)
      → after ≡ slots_after_insertion kind keeps s pair byte → IsUnlisted after at
  inserted_unlisted kind keeps s after pair byte at cache laws place slots =
      rw (slots, place, cache) (placed_unlisted 67 s pair byte (rw cache at laws))
