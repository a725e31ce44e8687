-- A home that may be locked at once, without work before.
use Rattle.std.specs.Prelude.{ℕ, ◌<◌, ◌≡◌, Bool, true, length}
use Rattle.bucket_slots.specs.ArrayView.{bucket_at}
use Rattle.bucket_slots.specs.BucketView.{pairs_in}
use Rattle.bucket_slots.specs.Homes.{IsHome}
use Rattle.bucket_table.specs.Views.ArraysView.{ArraysView}
use Rattle.bucket_table.specs.Views.Sides.{bucket_on}
use Rattle.bucket_table.specs.declared.arrays.side.Side.TheVariants.{Current}

-- there is no old array, and, if that is checked, the hash's home has fewer than 32 live pairs
pub record MayLockAtOnce {K V : Type 0} (is_checked : Bool) (arrays : ArraysView K V) (hash index : ℕ) : Type 0 where
  pub alone : length arrays.linked ≡ 0
  pub home : IsHome (length arrays.current) hash index
  pub few : is_checked ≡ true → length (pairs_in (bucket_on arrays Current index)) < 32

-- there is no old array, and the hash's home has fewer live pairs than a growth needs
pub record IsRoomy {K V : Type 0} (arrays : ArraysView K V) (hash index : ℕ) : Type 0 where
  pub alone : length arrays.linked ≡ 0
  pub home : IsHome (length arrays.current) hash index
  pub few : length (pairs_in (bucket_at arrays.current index)) < 31
