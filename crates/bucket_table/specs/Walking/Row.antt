-- The buckets of both arrays in a row, and the pairs after a place in it.
use Rattle.std.specs.Prelude.{ℕ, ◌≡◌, ◌≢◌, ◌<◌, ◌+◌, ◌-◌, nat_lt, if◌then◌else◌, List, [], ◌∷◌, ◌++◌, drop}
use Rattle.std.specs.Prelude.{length}
use Rattle.bucket_slots.specs.ArrayView.{bucket_at}
use Rattle.bucket_slots.specs.BucketView.{BucketView, Place}
use Rattle.bucket_slots.specs.OwnWalks.{AreOwnAfter}
use Rattle.bucket_slots.specs.Walking.{MovesToNext, pairs_ahead}
use Rattle.bucket_table.specs.Map.LookingUp.{pairs_in_all}
use Rattle.bucket_table.specs.Views.ArraysView.{ArraysView}
use Rattle.bucket_table.specs.Views.Sides.{arrays_with}
use Rattle.bucket_table.specs.declared.arrays.side.Side.TheVariants.{Current, Old}

-- the buckets of the current array, then those of the old one
abbrev pub row_of : {K V : Type 0} → ArraysView K V → List (BucketView K V)
row_of arrays = arrays.current ++ arrays.linked

-- the arrays with one bucket of the row replaced
abbrev pub row_with : {K V : Type 0} → ArraysView K V → ℕ → BucketView K V → ArraysView K V
row_with arrays index bucket =
    if nat_lt index (length arrays.current) then arrays_with arrays Current index bucket
    else arrays_with arrays Old (index - length arrays.current) bucket

-- the pairs after a place in a bucket of a row, and those of the buckets after it
abbrev pub pairs_from : {K V : Type 0} → List (BucketView K V) → ℕ → Place → List (K × V)
pairs_from buckets index at = pairs_ahead (bucket_at buckets index) at ++ pairs_in_all (drop (index + 1) buckets)

-- a place moves to the first live slot after it, in a bucket: the pair there was the first of the remaining ones
pub record MovesOn {K V : Type 0} (buckets : List (BucketView K V)) (index : ℕ) (at : Place) (bucket : BucketView K V) (to_index : ℕ)
    (to : Place) : Type 0 where
  pub within : to_index < length buckets
  pub here : bucket ≡ bucket_at buckets to_index
  pub from : Place
  pub moves : MovesToNext (bucket_at buckets to_index) from to
  pub first : pairs_from buckets index at ≡ moves.pair ∷ pairs_from buckets to_index to

-- a bucket of a row is in an array, at an index in that array
pub record StandsAt {K V : Type 0} (buckets : List (BucketView K V)) (index : ℕ) (array : List (BucketView K V))
    (own : ℕ) : Type 0 where
  pub inside : index < length buckets
  pub within : own < length array
  pub same : bucket_at array own ≡ bucket_at buckets index

-- a bucket of a row has live own slots after a place, which are those of a bitmap
pub record HasOwnLeft {K V : Type 0} (buckets : List (BucketView K V)) (index : ℕ) (at : Place)
    (bucket : BucketView K V) (left : ℕ)
    : Type 0 where
  pub within : index < length buckets
  pub here : bucket ≡ bucket_at buckets index
  pub some : left ≢ 0
  pub own : AreOwnAfter bucket at left

-- if a bitmap isn't 0, its bits are the live own slots after a place in the bucket that is lent as a slice
abbrev pub LendsLeft : {K V : Type 0} → List (BucketView K V) → ℕ → Place → List (BucketView K V) → ℕ → Type 0
LendsLeft {K} {V} buckets index at lent left =
    left ≢ 0 → (bucket : BucketView K V) × (lent ≡ bucket ∷ []) × HasOwnLeft buckets index at bucket left
