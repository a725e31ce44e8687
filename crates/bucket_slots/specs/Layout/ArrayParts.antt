-- How an array's parts hold its buckets.
use Rattle.std.specs.Prelude.{ℕ, ◌-◌, ◌^◌, ◌<◌, ◌≤◌, ◌≡◌, ◌⊎◌, Bool, false, true, List, [], ◌∷◌, ◌++◌, length, replicate, slice_index_or}
use Rattle.std.specs.List.{All}
use Rattle.bucket_slots.specs.BucketView.{BucketView, empty_bucket, flattened}

-- how a bucket that isn't initialized reads: it is empty, and it is killed if its part was released
abbrev pub unmade_bucket : {K V : Type 0} → Bool → BucketView K V
unmade_bucket released = record empty_bucket { killed = released }

-- the buckets of a part of this length of which only the first ones are initialized
abbrev pub with_unmade : {K V : Type 0} → List (BucketView K V) → ℕ → Bool → List (BucketView K V)
with_unmade made len released = made ++ replicate (len - length made) (unmade_bucket released)

-- the buckets of a part; none past the last part
abbrev pub part_at : {K V : Type 0} → List (List (BucketView K V)) → ℕ → List (BucketView K V)
part_at parts i = slice_index_or parts i []

-- the buckets of an array: those of its parts, or, in a short array, which has no parts, those beside them
abbrev pub buckets_of : {K V : Type 0} → List (List (BucketView K V)) → List (BucketView K V) → List (BucketView K V)
buckets_of [] beside = beside
buckets_of (part ∷ parts) beside = flattened (part ∷ parts)

-- each part has 2 ^ part_bits buckets; the length of the array is stored, and there are a spare empty bucket and a spare killed one
pub record AreParts {K V : Type 0} (parts : List (List (BucketView K V))) (spare : List (BucketView K V)) (len part_bits : ℕ) : Type 0 where
  pub long : All (λ part. length part ≡ 2 ^ part_bits) parts
  pub few_bits : part_bits < 64
  pub len_is : len ≡ length (flattened parts)
  pub spare_is : spare ≡ unmade_bucket false ∷ unmade_bucket true ∷ []

-- a short array has no parts and at most four buckets
pub record AreFew {K V : Type 0} (parts : List (List (BucketView K V))) (beside : List (BucketView K V)) (len part_bits : ℕ) : Type 0 where
  pub partless : parts ≡ []
  pub some : 0 < len
  pub few : len ≤ 4
  pub len_is : len ≡ length beside
  pub no_bits : part_bits ≡ 0

-- a short array, or parts with more than four buckets
abbrev pub AreBuckets : {K V : Type 0} → List (List (BucketView K V)) → List (BucketView K V) → ℕ → ℕ → Type 0
AreBuckets parts beside len part_bits = AreFew parts beside len part_bits ⊎ (AreParts parts beside len part_bits × (4 < len))
