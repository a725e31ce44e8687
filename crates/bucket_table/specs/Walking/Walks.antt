-- What a walk does to the map.
use Rattle.std.specs.Prelude.{ℕ, ◌+◌, ◌<◌, ◌≡◌, ◌≢◌, ◌≤◌, ◌⊎◌, ◌&&◌, nat_le, nat_lt, not, Bool, true, false, List, [], ◌∷◌, ◌++◌, filter}
use Rattle.std.specs.Prelude.{is_ok, length, map, Result, OnErr, OnOk}
use Rattle.std.specs.List.{flat_map}
use Rattle.std.specs.List.Sorted.{IsPermutation}
use Rattle.bucket_slots.specs.BucketView.{BucketView, entries_in, pairs_in}
use Rattle.bucket_slots.specs.Homes.{IsInRange}
use Rattle.bucket_table.specs.Views.ArraysView.{AreSourcesKilled, ArraysView, IsSource, pairs_of}
use Rattle.bucket_table.specs.Resize.Asking.{AsksShrinking, ResizesIf}
use Rattle.bucket_table.specs.Walking.Cursors.{AreKilledFor, bound_of}
use Rattle.bucket_table.specs.Views.Keeping.{Keeps, KeepsArrays}
use Rattle.bucket_table.specs.Views.Sides.{arrays_with, bucket_on}
use Rattle.bucket_table.specs.Rehash.Units.{NeedsMemory, WorksUnits, steps_of}
use Rattle.bucket_table.specs.Walking.Visits.{AreCalls, HasStopped, Visited}
use Rattle.bucket_table.specs.declared.arrays.side.Side.TheVariants.{Current}

-- the live keys in slot order, each with its byte
abbrev pub keys_in : {K V : Type 0} → BucketView K V → List (K × ℕ)
keys_in bucket = map (λ entry. (entry.0.0, entry.1)) (entries_in bucket)

-- what a closure must do with a bucket that is lent to it: some of its keys may be removed, and none is new
pub record IsKeptBy {K V : Type 0} (lent left : BucketView K V) : Type 0 where
  pub gone : List (K × ℕ)
  pub keys : IsPermutation (keys_in lent) (gone ++ keys_in left)
  pub alive : left.killed ≡ false

-- every call keeps a bucket's keys like that
abbrev pub KeepsBuckets : {K V S : Type 0} → (S → BucketView K V → Bool → Bool → BucketView K V → Bool → S → Type 0) → Type 0
KeepsBuckets {K} {V} {S} visits =
    (f g : S) (lent left : BucketView K V) (flag more last : Bool) → lent.killed ≡ false → visits f lent flag more left last g
    → IsKeptBy lent left

-- the pair's hash has its home in one of the buckets from `start` up to but not including `end`
abbrev pub has_home_in : {K V : Type 0} → (K → ℕ) → ℕ → ℕ → ℕ → K × V → Bool
has_home_in hash len start end pair = nat_le (bound_of len start) (hash pair.0) && nat_lt (hash pair.0) (bound_of len end)

-- the pairs that the calls left in the buckets
abbrev pub pairs_left : {K V : Type 0} → List (Visited (BucketView K V)) → List (K × V)
pairs_left visits = flat_map (λ visit. pairs_in visit.left) visits

-- the buckets from `index` on were lent, each with all the pairs at entry that have their home there
abbrev pub AreLent : {K V : Type 0} → (K → ℕ) → ℕ → List (K × V) → ℕ → List (Visited (BucketView K V)) → Type 0
AreLent hash len pairs index [] = Unit {0}
AreLent hash len pairs index (visit ∷ visits) =
    IsPermutation (filter (has_home_in hash len index (index + 1)) pairs) (pairs_in visit.lent) × AreLent hash len pairs (index + 1) visits

-- the map is the pairs that the calls left in the buckets that were lent, and those at entry with their home in none of these buckets
pub record IsWalk {K V : Type 0} (hash : K → ℕ) (old : ArraysView K V) (start : ℕ) (visits : List (Visited (BucketView K V)))
    (new : ArraysView K V) : Type 0 where
  pub lent : AreLent hash (length old.current) (pairs_of old) start visits
  pub pairs : IsPermutation
      (pairs_left visits ++ filter (λ pair. not (has_home_in hash (length old.current) start (start + length visits) pair)) (pairs_of old))
      (pairs_of new)

-- the walk begins in the bucket with the first hash of bucket `start` of an array of the expected length, or at `start` if none is expected
pub record BeginsAt (len expected start from : ℕ) : Type 0 where
  pub as_given : expected ≡ 0 → from ≡ start
  pub early : expected ≢ 0 → 0 < len → bound_of len from ≤ bound_of expected start
  pub reaches : expected ≢ 0 → 0 < len → bound_of expected start < bound_of len (from + 1)

-- if a walk didn't fail and its flag is set, it ends with a resize if its first buckets have few live pairs, which keeps the map
abbrev pub EndsWalk : {K V : Type 0} → Bool → ArraysView K V → ArraysView K V → Type 0
EndsWalk true ended new = ResizesIf (AsksShrinking ended 0) ended new × Keeps ended new
EndsWalk false ended new = new ≡ ended

-- old buckets may have moved, and nothing else changes
abbrev pub MovesOn : {K V : Type 0} → ArraysView K V → ArraysView K V → Type 0
MovesOn old new = KeepsArrays old new × (length old.linked ≡ 0 → new ≡ old)

-- each bucket is lent as it is once old buckets have moved and all its sources are killed, and nothing else changes but what the visits
-- left
abbrev pub VisitsEach : {K V : Type 0} → ArraysView K V → ℕ → List (Visited (BucketView K V)) → ArraysView K V → Type 0
VisitsEach old index [] new = MovesOn old new
VisitsEach {K} {V} old index (visit ∷ visits) new = (ready : ArraysView K V) × MovesOn old ready × AreSourcesKilled ready index
    × (visit.lent ≡ bucket_on ready Current index)
    × VisitsEach (arrays_with ready Current index visit.left) (index + 1) visits new

-- a walk by a visitor: it reaches the array's end, is stopped, or fails because allocation fails for a source of the next bucket. Before
-- its end the current array keeps its length, even beside an old array that is dropped
pub record WalksBy {S A E K V : Type 0} (step : S → BucketView K V → Bool → Bool → BucketView K V → Bool → S → Type 0)
    (hash : K → ℕ) (expected start : ℕ) (first : S) (old : ArraysView K V) (result : Result A E) (now : S)
    (new : ArraysView K V) : Type 0 where
  pub from : ℕ
  pub visits : List (Visited (BucketView K V))
  pub flag : Bool
  pub ended : ArraysView K V
  pub begins : BeginsAt (length old.current) expected start from
  pub calls : AreCalls step first false visits now flag
  pub walk : IsWalk hash old from visits ended
  pub len : length ended.current ≡ length old.current
  pub units : WorksUnits (steps_of result (length visits)) (IsInRange from (from + steps_of result (length visits))) old ended
  pub sources : AreKilledFor ended from (from + length visits)
  pub within : 0 < length visits → from + length visits ≤ length old.current
  pub wanted : OnErr result (NeedsMemory (IsSource ended (from + length visits)) old ended)
  pub whole : OnOk result ((length old.current ≤ from + length visits) ⊎ HasStopped visits)
  pub going : OnErr result (HasStopped visits → ⊥)
  pub ends : EndsWalk (is_ok result && flag) ended new
  pub visited : VisitsEach old from visits ended
