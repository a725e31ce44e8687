-- Another array, or another map, with a pair made of each pair.
use Rattle.std.specs.Prelude.{ℕ, ◌≡◌, ◌<◌, false, Option, Some, List, length}
use Rattle.std.specs.Borrow.{Bor}
use Rattle.std.specs.List.{All, AllZip}
use Rattle.std.specs.List.Sorted.{IsPermutation}
use Rattle.bucket_slots.specs.ArrayView.{bucket_at}
use Rattle.bucket_slots.specs.BucketView.{BucketView, entries_in, pairs_in}
use Rattle.bucket_table.specs.Rehash.Relocation.{IsEntryHome}

-- a function of a key and a value returned a pair for those of another pair
abbrev pub IsMadeOf : {K V : Type 0} → (Bor K → Bor V → Option (K × V) → Type 0) → K × V → K × V → Type 0
IsMadeOf {K} {V} post own pair = (key : Bor K) × (value : Bor V) × ((key.now, value.now) ≡ own) × post key value (Some pair)

-- the pairs of a map are those made of another map's pairs, one of each
pub record AreMadeOf {K V : Type 0} (post : Bor K → Bor V → Option (K × V) → Type 0) (own copy : List (K × V)) : Type 0 where
  pub pairs : List (K × V)
  pub made : AllZip (IsMadeOf post) own pairs
  pub all : IsPermutation pairs copy

module _ {K V : Type 0} (hash : K → ℕ) (post : Bor K → Bor V → Option (K × V) → Type 0) where
  -- the pairs of a bucket are those made of another one's pairs, each in its home with its byte
  pub record IsMadeBucket (len index : ℕ) (own copy : BucketView K V) : Type 0 where
    pub pairs : List (K × V)
    pub made : AllZip (IsMadeOf post) (pairs_in own) pairs
    pub all : IsPermutation pairs (pairs_in copy)
    pub home : All (IsEntryHome hash len index) (entries_in copy)
    pub alive : copy.killed ≡ false

  -- the same for each bucket of an array
  pub record AreMadeBuckets (own copy : List (BucketView K V)) : Type 0 where
    pub len : length copy ≡ length own
    pub each : (i : ℕ) → i < length own → IsMadeBucket (length own) i (bucket_at own i) (bucket_at copy i)
