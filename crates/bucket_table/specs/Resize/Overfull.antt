-- A growth for one bucket with far more pairs than own slots, whatever the samples of a resize show.
use Rattle.std.specs.Prelude.{ℕ, ◌*◌, ◌≤◌, ◌≡◌, ◌⊎◌, Bool, true, false, Result, Ok, Err, length}
use Rattle.bucket_slots.specs.ArrayView.{bucket_at}
use Rattle.bucket_slots.specs.BucketView.{BucketView, pairs_in}
use Rattle.bucket_slots.specs.Homes.{IsHome}
use Rattle.bucket_table.specs.Resize.Resizing.{IsPushed}
use Rattle.bucket_table.specs.Views.ArraysView.{ArraysView, pairs_of}

-- a bucket has 48 live pairs or more, or 32 and a chain of 8 blocks, whose slots may be tombstones
abbrev pub IsOverfullBucket : {K V : Type 0} → BucketView K V → Type 0
IsOverfullBucket bucket = (48 ≤ length (pairs_in bucket)) ⊎ ((32 ≤ length (pairs_in bucket)) × (8 ≤ length bucket.chain))

-- there is no old array, and a hash's home is an overfull bucket
pub record HasFullHome {K V : Type 0} (hash : ℕ) (arrays : ArraysView K V) : Type 0 where
  pub index : ℕ
  pub alone : length arrays.linked ≡ 0
  pub home : IsHome (length arrays.current) hash index
  pub full : IsOverfullBucket (bucket_at arrays.current index)

-- the same, and there is a pair for each 8 slots, and twice the slots do not exceed the maximum
pub record IsOverfull {K V : Type 0} (hash : ℕ) (arrays : ArraysView K V) : Type 0 where
  pub bucket : HasFullHome hash arrays
  pub many : 4 * length arrays.current ≤ length (pairs_of arrays)
  pub may_grow : 64 * length arrays.current ≤ arrays.maximum

-- then the current array becomes the old one, and an empty one of twice its slots the current one
pub record GrowsOverfull {K V : Type 0} (hash : ℕ) (old new : ArraysView K V) : Type 0 where
  pub overfull : IsOverfull hash old
  pub pushed : IsPushed (64 * length old.current) old new

-- whether the arrays grow like that: they do if a hash's home is overfull, unless allocation fails
abbrev pub GrowsIfOverfull : {K V E : Type 0} → ℕ → ArraysView K V → Result Bool E → ArraysView K V → Type 0
GrowsIfOverfull hash old (Ok true) new = GrowsOverfull hash old new
GrowsIfOverfull hash old (Ok false) new = (IsOverfull hash old → ⊥) × (new ≡ old)
GrowsIfOverfull hash old (Err refused) new = IsOverfull hash old × (new ≡ old)

-- a hash's home may be split: there is no old array, the home has as many pairs as own slots, and twice the slots are at most the maximum
pub record MaySplit {K V : Type 0} (hash : ℕ) (arrays : ArraysView K V) : Type 0 where
  pub index : ℕ
  pub alone : length arrays.linked ≡ 0
  pub home : IsHome (length arrays.current) hash index
  pub full : length (pairs_in (bucket_at arrays.current index)) ≡ 32
  pub may_grow : 64 * length arrays.current ≤ arrays.maximum

-- then the current array becomes the old one, and an empty one of twice its slots the current one
pub record SplitsHome {K V : Type 0} (hash : ℕ) (old new : ArraysView K V) : Type 0 where
  pub may : MaySplit hash old
  pub pushed : IsPushed (64 * length old.current) old new

-- the result of trying it: whether the slots were doubled; they are if a hash's home may be split, unless allocation fails
abbrev pub TriesSplit : {K V E : Type 0} → ℕ → ArraysView K V → Result Bool E → ArraysView K V → Type 0
TriesSplit hash old (Ok true) new = SplitsHome hash old new
TriesSplit hash old (Ok false) new = (MaySplit hash old → ⊥) × (new ≡ old)
TriesSplit hash old (Err refused) new = MaySplit hash old × (new ≡ old)
