-- The first newline, by a mask of the first 32 bytes.
use Rattle.std.proofs.Common.{◌≡◌, ℕ, ◌<◌, ◌≤◌, ◌^◌, List, Some, length, take, Bool, sym, ap, ◌∙◌, arith, w32}
use Rattle.std.proofs.lemmas.List.{get_or-take}
use Rattle.std.proofs.lemmas.List.Quantifiers.{position-Some}
use Rattle.std.specs.Int.{trailing_zeros}
use Rattle.std.specs.List.{position}
use Rattle.std.specs.Prelude.{◌==◌}
use Rattle.bucket_slots.specs.Masks.{IsMaskOf}
use Rattle.bucket_slots.proofs.Bitmaps.{lowest}
use Rattle.bucket_slots.proofs.Masks.{position-lowest}
use Rattle.bucket_slots.proofs.Positions.{position_at}

abbrev is_newline : ℕ → Bool
is_newline byte = byte == 10

-- the lowest bit of the mask is the first newline of all the bytes
pub newline_by_mask : (bytes : List ℕ) (mask : ℕ) → 32 ≤ length bytes → IsMaskOf is_newline (take 32 bytes) mask → (mask ≡ 0 → ⊥)
    → mask < 2 ^ 32 → position is_newline bytes ≡ Some (trailing_zeros w32 mask)
newline_by_mask bytes mask enough is_mask some fits =
    let at = trailing_zeros w32 mask in
    let low = lowest mask (omega (arith, some)) fits in
    let (inside, here, before) = position-Some is_newline (take 32 bytes) at 0
    (position-lowest is_newline (take 32 bytes) mask is_mask at 0 low) in
    position_at is_newline bytes at 0 (omega (arith, low.within))
    (λ i below. ap is_newline (sym (get_or-take 32 bytes i 0 (omega (arith, low.within)))) ∙ before i below)
    (ap is_newline (sym (get_or-take 32 bytes at 0 low.within)) ∙ here)
