-- Which bucket a locked bucket may be.
use Rattle.std.specs.Prelude.{ℕ, ◌≡◌, ◌<◌, false, length}
use Rattle.bucket_slots.specs.ArrayView.{bucket_at}
use Rattle.bucket_table.specs.Views.ArraysView.{AreSourcesKilled, ArraysView}
use Rattle.bucket_table.specs.Rehash.Relocation.{IsVacant}
use Rattle.bucket_table.specs.Views.Sides.{buckets_on}
use Rattle.bucket_table.specs.declared.arrays.side.Side.{Side}
use Rattle.bucket_table.specs.declared.arrays.side.Side.TheVariants.{Current, Old}

-- a bucket of the current array, if all its sources are killed; or one of the old array that isn't killed, while every bucket of the
-- current array is vacant
pub record IsLocked {K V : Type 0} (arrays : ArraysView K V) (side : Side) (index : ℕ) : Type 0 where
  pub within : index < length (buckets_on arrays side)
  pub killed : side ≡ Current → AreSourcesKilled arrays index
  pub alive : side ≡ Old → (bucket_at arrays.linked index).killed ≡ false
  pub vacant : side ≡ Old → (j : ℕ) → j < length arrays.current → IsVacant (bucket_at arrays.current j)
