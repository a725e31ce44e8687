-- The pairs of a cache's arrays in LRU order, and what a walk over them has yet to visit.
use Rattle.std.specs.Prelude.{ℕ, List, [], ◌∷◌, ◌++◌, Option, Some, None, map}
use Rattle.bucket_slots.specs.BucketView.{BucketView}
use Rattle.bucket_slots.specs.ByUse.{pairs_by_use}
use Rattle.bucket_slots.specs.Slots.{live_pairs, slot_at}
use Rattle.bucket_table.specs.Views.ArraysView.{ArraysView}

-- the live pairs of buckets, bucket by bucket, those of each in LRU order
abbrev pub all_by_use : {K V : Type 0} → List (BucketView K V) → List (K × V)
all_by_use [] = []
all_by_use (bucket ∷ buckets) = pairs_by_use bucket ++ all_by_use buckets

-- the live pairs of arrays, the current one's first
abbrev pub arrays_by_use : {K V : Type 0} → ArraysView K V → List (K × V)
arrays_by_use arrays = all_by_use arrays.current ++ all_by_use arrays.linked

-- the live pairs of some own slots of a bucket
abbrev pub own_left : {K V : Type 0} → BucketView K V → List ℕ → List (K × V)
own_left bucket slots = live_pairs (map (slot_at bucket.own) slots)

-- the remaining elements of an array, or none if there is no array
abbrev pub left_of : {X : Type 0} → Option (List X) → List X
left_of None = []
left_of (Some left) = left
