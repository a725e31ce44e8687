-- The two sides of a table's arrays: the current array and the old one.
use Rattle.std.specs.Prelude.{ℕ, List, slice_set}
use Rattle.bucket_slots.specs.ArrayView.{bucket_at}
use Rattle.bucket_slots.specs.BucketView.{BucketView}
use Rattle.bucket_table.specs.Views.ArraysView.{ArraysView, TableView}
use Rattle.bucket_table.specs.declared.arrays.side.Side.{Side}
use Rattle.bucket_table.specs.declared.arrays.side.Side.TheVariants.{Current, Old}

-- the buckets of one side
abbrev pub buckets_on : {K V : Type 0} → ArraysView K V → Side → List (BucketView K V)
buckets_on arrays Current = arrays.current
buckets_on arrays Old = arrays.linked

-- the bucket of one side at an index
abbrev pub bucket_on : {K V : Type 0} → ArraysView K V → Side → ℕ → BucketView K V
bucket_on arrays side index = bucket_at (buckets_on arrays side) index

-- the arrays with one bucket of one side replaced
abbrev pub arrays_with : {K V : Type 0} → ArraysView K V → Side → ℕ → BucketView K V → ArraysView K V
arrays_with arrays Current index bucket = record arrays { current = slice_set arrays.current index bucket }
arrays_with arrays Old index bucket = record arrays { linked = slice_set arrays.linked index bucket }

-- the table with one bucket of one side replaced
abbrev pub with_bucket : {K V H : Type 0} → TableView K V H → Side → ℕ → BucketView K V → TableView K V H
with_bucket table side index bucket = record table { arrays = arrays_with table.arrays side index bucket }
