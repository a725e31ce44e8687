-- A growth that a writer starts.
use Rattle.std.specs.Prelude.{ℕ, ◌*◌, ◌≤◌, ◌≡◌, length}
use Rattle.bucket_slots.specs.ArrayView.{bucket_at}
use Rattle.bucket_slots.specs.BucketView.{pairs_in}
use Rattle.bucket_slots.specs.Sampling.{StartsSampling}
use Rattle.bucket_slots.specs.declared.bucket.TheConstants.{CACHE}
use Rattle.bucket_table.specs.Views.ArraysView.{ArraysView}
use Rattle.bucket_table.specs.Resize.Asking.{AsksGrowth}
use Rattle.bucket_table.specs.Resize.Resizing.{IsPushed}
use Rattle.bucket_table.specs.declared.arrays.side.Side.{Side}
use Rattle.bucket_table.specs.declared.arrays.side.Side.TheVariants.{Current, Old}

-- a writer tries a growth: a cache isn't at its maximum capacity, the bucket has 31 live slots or more, the hash starts a sample, there is
-- no old array, and near the bucket many slots are live
pub record WriterAsksGrowth {K V : Type 0} (kind hash : ℕ) (arrays : ArraysView K V) (index : ℕ) : Type 0 where
  pub may_grow : kind ≡ CACHE → 32 * length arrays.current ≡ arrays.maximum → ⊥
  pub full : 31 ≤ length (pairs_in (bucket_at arrays.current index))
  pub sampled : StartsSampling (length arrays.current) hash
  pub near : AsksGrowth arrays index

-- the array that was the current one is now on this side: nothing changed, or a growth was done
abbrev pub Grows : {K V : Type 0} → Side → ArraysView K V → ArraysView K V → Type 0
Grows Current old new = new ≡ old
Grows Old old new = (capacity : ℕ) × IsPushed capacity old new
