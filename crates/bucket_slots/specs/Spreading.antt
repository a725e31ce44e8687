-- Pairs that move one by one from the own slots of a bucket to buckets of an array.
use Rattle.std.specs.Prelude.{ℕ, zero, suc, ◌≡◌, ◌+◌, ◌/◌, ◌%◌, ◌^◌, ◌<◌, List, Some, length, slice_set}
use Rattle.std.specs.Borrow.{Bor}
use Rattle.bucket_slots.specs.ArrayView.{bucket_at}
use Rattle.bucket_slots.specs.BucketLaws.{IsBucketOf}
use Rattle.bucket_slots.specs.BucketView.{BucketView, Place, null_place, slot_in}
use Rattle.bucket_slots.specs.Moving.{slots_vacated}
use Rattle.bucket_slots.specs.Placing.{slots_with}
use Rattle.bucket_slots.specs.Slots.{live_pair}
use Rattle.bucket_slots.specs.Walking.{MovesToNext}

module _ {K V : Type 0} (kind : ℕ) (answers : Bor K → ℕ → Type 0) (names : ℕ → ℕ → Type 0) (start : ℕ) where
  -- the first live pair moves to one of some buckets: the result for its key is the index of that bucket, where `start` is the index of the
  -- first
  pub record SpreadsOne (old : BucketView K V) (buckets : List (BucketView K V)) (new : BucketView K V)
      (after : List (BucketView K V)) : Type 0 where
    pub at : Place
    pub next : MovesToNext old null_place at
    pub key : Bor K
    pub value : V
    pub here : live_pair (slot_in old at) ≡ Some (key.now, value)
    pub number : ℕ
    pub answered : answers key number
    pub index : ℕ
    pub within : index < length buckets
    pub named : names number (start + index)
    pub laws : IsBucketOf kind old
    pub home_laws : IsBucketOf kind (bucket_at buckets index)
    pub vacated : new ≡ slots_vacated old at
    pub placed : after ≡ slice_set buckets index (slots_with (bucket_at buckets index) (key.now, value) (number % 256))

  -- the given number of pairs move so, one after another
  abbrev pub Spreads : ℕ → BucketView K V → List (BucketView K V) → BucketView K V → List (BucketView K V) → Type 0
  Spreads zero old buckets new after = (new ≡ old) × (after ≡ buckets)
  Spreads (suc count) old buckets new after =
      (left : BucketView K V) × (between : List (BucketView K V)) × Spreads count old buckets left between
      × SpreadsOne left between new after

  -- some pairs move so, the first ones, or none
  abbrev pub SpreadsSome : BucketView K V → List (BucketView K V) → BucketView K V → List (BucketView K V) → Type 0
  SpreadsSome old buckets new after = (count : ℕ) × Spreads count old buckets new after

-- the index is a 64-bit number without its lower bits
abbrev pub IsShifted : ℕ → ℕ → ℕ → Type 0
IsShifted shift number index = (number < 2 ^ 64) × (number / 2 ^ shift ≡ index)
