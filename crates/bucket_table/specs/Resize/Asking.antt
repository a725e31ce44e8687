-- When a resize near a bucket is tried.
use Rattle.std.specs.Prelude.{[], ℕ, ◌<◌, ◌≡◌, ◌⊎◌, Option, Some, None, length}
use Rattle.bucket_slots.specs.BucketView.{BucketView, pairs_in}
use Rattle.bucket_table.specs.Views.ArraysView.{ArraysView}
use Rattle.bucket_table.specs.Resize.ResizePlan.{slots_of}
use Rattle.bucket_table.specs.Views.Sides.{arrays_with}
use Rattle.bucket_table.specs.Resize.Resizing.{Resizes}
use Rattle.bucket_table.specs.Resize.Sampling.{IsCrowded, IsDeserted, live_counts}
use Rattle.bucket_table.specs.Resize.Sparse.{IsSparse, ShrinksIf}
use Rattle.bucket_table.specs.declared.arrays.side.Side.{Side}

-- there is a current array and no old one, and near the bucket many slots are live
pub record AsksGrowth {K V : Type 0} (arrays : ArraysView K V) (index : ℕ) : Type 0 where
  pub some : 0 < length arrays.current
  pub alone : length arrays.linked ≡ 0
  pub near : IsCrowded (live_counts arrays.current) index

-- there is a current array and no old one, the slots are more than the minimum, and near the bucket few slots are live
pub record AsksShrinking {K V : Type 0} (arrays : ArraysView K V) (index : ℕ) : Type 0 where
  pub some : 0 < length arrays.current
  pub alone : length arrays.linked ≡ 0
  pub more : arrays.minimum < slots_of (live_counts arrays.current)
  pub near : IsDeserted (live_counts arrays.current) index

-- if a resize is due, the arrays follow the plan, or stay if allocation fails; otherwise they stay
abbrev pub ResizesIf : {K V : Type 0} → Type 0 → ArraysView K V → ArraysView K V → Type 0
ResizesIf Asked old new = (Asked × Resizes old new) ⊎ ((Asked → ⊥) × (new ≡ old))

-- a removal shrinks the arrays by the plan if it emptied a bucket and a shrink is due near it; if the number of remaining pairs is
-- given, it must agree; otherwise the arrays stay
abbrev pub ShrinksBy : {K V : Type 0} → Option ℕ → Type 0 → ℕ → ArraysView K V → ArraysView K V → Type 0
ShrinksBy None Emptied index old new = ResizesIf (Emptied × AsksShrinking old index) old new
ShrinksBy (Some pairs) Emptied index old new = ShrinksIf (Emptied × (IsSparse pairs old × AsksShrinking old index)) pairs old new

-- a bucket of one side is replaced, and if it has no live pair, the arrays may shrink
abbrev pub RemovesAndShrinks : {K V : Type 0} → Option ℕ → ArraysView K V → Side → ℕ → BucketView K V → ArraysView K V → Type 0
RemovesAndShrinks pairs old side index bucket new =
    ShrinksBy pairs (pairs_in bucket ≡ []) index (arrays_with old side index bucket) new
