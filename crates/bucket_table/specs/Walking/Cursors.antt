-- Where a cursor is, and which pairs it has passed.
use Rattle.std.specs.Prelude.{ℕ, ◌+◌, ◌-◌, ◌*◌, ◌<◌, ◌≤◌, ◌≡◌, ◌≢◌, Some, Result, Ok, Err, IsErrAnd, List, [], ◌∷◌, length}
use Rattle.std.specs.List.{AllByRecursion}
use Rattle.bucket_slots.specs.ArrayView.{bucket_at}
use Rattle.bucket_slots.specs.BucketView.{Place, null_place, pairs_in, slot_in}
use Rattle.bucket_slots.specs.Homes.{IsInInterval, IsInRange, Meets, interval_width}
use Rattle.bucket_slots.specs.Marking.{HasNoNewMark}
use Rattle.bucket_slots.specs.Slots.{live_pair}
use Rattle.bucket_slots.specs.Walking.{MovesToNext, pairs_ahead}
use Rattle.bucket_table.specs.Views.ArraysView.{AreSourcesKilled, ArraysView, IsSource, TableView, tombstones_of, pairs_of}
use Rattle.bucket_table.specs.Resize.Asking.{AsksShrinking, ResizesIf}
use Rattle.bucket_table.specs.Views.Locking.{IsLocked}
use Rattle.bucket_table.specs.Map.MapState.{KeepsPairs, state_of}
use Rattle.bucket_table.specs.Views.Keeping.{KeepsArrays, KeepsOpenTickets}
use Rattle.bucket_table.specs.Views.Sides.{bucket_on, buckets_on}
use Rattle.bucket_table.specs.Rehash.Units.{NeedsMemory, WorksUnits}
use Rattle.bucket_table.specs.declared.arrays.Missing.{Missing}
use Rattle.bucket_table.specs.declared.arrays.Missing.TheVariants.{Nothing, Memory}
use Rattle.bucket_table.specs.declared.arrays.side.Side.{Side}
use Rattle.bucket_table.specs.declared.arrays.side.Side.TheVariants.{Current}

-- no pair has a hash from the bound on
abbrev pub HasNoneFrom : {K V : Type 0} → (K → ℕ) → ℕ → List (K × V) → Type 0
HasNoneFrom hash low pairs = AllByRecursion (λ pair. hash pair.0 < low) pairs

-- the first hash of a bucket of an array, and so the end of the one before
abbrev pub bound_of : ℕ → ℕ → ℕ
bound_of len index = index * interval_width len

-- the pointer is at the first live pair of a current bucket, and no live pair with a hash from the bound on is before it: not in a lower
-- current bucket, nor in an old one that has a lower target, and none has a hash from the bound up to that bucket's first
pub record IsFirstFrom {K V : Type 0} (hash : K → ℕ) (arrays : ArraysView K V) (bound index : ℕ) (at : Place) : Type 0 where
  pub locked : IsLocked arrays Current index
  pub pair : K × V
  pub slot : live_pair (slot_in (bucket_on arrays Current index) at) ≡ Some pair
  pub first : pairs_in (bucket_on arrays Current index) ≡ pair ∷ pairs_ahead (bucket_on arrays Current index) at
  pub current : (j : ℕ) → j < index → HasNoneFrom hash bound (pairs_in (bucket_on arrays Current j))
  pub old : (k target : ℕ) → k < length arrays.linked → target < index → Meets (length arrays.linked) k (length arrays.current) target
      → HasNoneFrom hash bound (pairs_in (bucket_at arrays.linked k))
  pub passed : AllByRecursion (λ pair. bound ≤ hash pair.0 → hash pair.0 < bound_of (length arrays.current) index → ⊥) (pairs_of arrays)

-- a cursor that continues from a hash finds no bucket: the pointer is null, and unless allocation failed, no live pair has a hash from
-- there on
pub record FindsNone {K V : Type 0} (hash : K → ℕ) (bound : ℕ) (missing : Missing) (arrays : ArraysView K V) (at : Place) : Type 0 where
  pub null : at ≡ null_place
  pub none : missing ≡ Nothing → HasNoneFrom hash bound (pairs_of arrays)

-- where a cursor is that continues from a hash: at the first live pair from there on, or nowhere
abbrev pub IsFoundFrom : {K V : Type 0} → (K → ℕ) → ℕ → Result ℕ Missing → ArraysView K V → Place → Type 0
IsFoundFrom hash bound (Ok index) arrays at = IsFirstFrom hash arrays bound index at
IsFoundFrom hash bound (Err missing) arrays at = FindsNone hash bound missing arrays at

-- the current bucket that is found, if any is, reaches past a hash
abbrev pub ReachesPast : {K V : Type 0} → ℕ → Result ℕ Missing → ArraysView K V → Type 0
ReachesPast bound (Ok index) arrays = bound < bound_of (length arrays.current) (index + 1)
ReachesPast bound (Err missing) arrays = Unit {0}

-- a cursor leaves a bucket whose interval ends at a hash: it continues from there, to a bucket that reaches past it
abbrev pub Leaves : {K V : Type 0} → (K → ℕ) → ℕ → Result ℕ Missing → ArraysView K V → Place → Type 0
Leaves hash bound result arrays at = IsFoundFrom hash bound result arrays at × ReachesPast bound result arrays

-- the same if the result has the side too: a cursor always continues in the current array
abbrev pub LeavesTo : {K V : Type 0} → (K → ℕ) → ℕ → Result (Side × ℕ) Missing → ArraysView K V → Place → Type 0
LeavesTo hash bound (Ok to) arrays at = (to.0 ≡ Current) × IsFirstFrom hash arrays bound to.1 at
    × (bound < bound_of (length arrays.current) (to.1 + 1))
LeavesTo hash bound (Err missing) arrays at = FindsNone hash bound missing arrays at

-- the sources of each current bucket from `start` up to but not including `end` are killed
abbrev pub AreKilledFor : {K V : Type 0} → ArraysView K V → ℕ → ℕ → Type 0
AreKilledFor arrays start end = (index : ℕ) → start ≤ index → index < end → AreSourcesKilled arrays index

-- the number of buckets that a cursor passes from `from` on: up to the one that it returns, or all, and fewer if allocation fails
abbrev pub IsPassed : {A : Type 0} → (A → ℕ) → ℕ → ℕ → Result A Missing → ℕ → Type 0
IsPassed index_of len from (Ok found) passed = from + passed ≡ index_of found + 1
IsPassed index_of len from (Err Nothing) passed = passed ≡ len - from
IsPassed index_of len from (Err Memory) passed = passed < len - from

-- the units that are worked: one before each bucket, and one more before the one for which allocation fails
abbrev pub units_passed : {A : Type 0} → Result A Missing → ℕ → ℕ
units_passed (Err Memory) passed = passed + 1
units_passed result passed = passed

-- a cursor passes current buckets, from the one whose interval has a hash on, or none if the hash is past all: before each a unit is
-- worked, and its sources are then killed. The pairs and the length of the current array stay; without an old array nothing changes, and it
-- fails only if allocation fails for a source of the next bucket
pub record Passes {K V A : Type 0} (index_of : A → ℕ) (bound : ℕ) (old : ArraysView K V) (result : Result A Missing)
    (new : ArraysView K V) : Type 0 where
  pub from : ℕ
  pub passed : ℕ
  pub begins : 0 < length old.current → IsInInterval (length old.current) from bound
  pub count : IsPassed index_of (length old.current) from result passed
  pub kept : KeepsArrays old new
  pub units : WorksUnits (units_passed result passed) (IsInRange from (from + units_passed result passed)) old new
  pub sources : AreKilledFor new from (from + passed)
  pub alone : length old.linked ≡ 0 → new ≡ old
  pub wanted : IsErrAnd result (λ missing. missing ≡ Memory) → NeedsMemory (IsSource new (from + passed)) old new

-- a bucket is left: if it has no live pair, and a shrink is due near it, the arrays follow the plan or stay if allocation fails;
-- otherwise they stay. Then the buckets past it are passed
pub record ShrinksThenPasses {K V A : Type 0} (index_of : A → ℕ) (side : Side) (index : ℕ) (old : ArraysView K V)
    (result : Result A Missing) (new : ArraysView K V) : Type 0 where
  pub between : ArraysView K V
  pub asked : ResizesIf ((pairs_in (bucket_on old side index) ≡ []) × AsksShrinking old index) old between
  pub passes : Passes index_of (bound_of (length (buckets_on old side)) (index + 1)) between result new

-- a cursor starts in a table: the map and the open tickets stay, no tombstone is new, and it continues from the least hash
pub record SetsOut {K V H : Type 0} (kind : ℕ) (hash : H → K → ℕ) (old : TableView K V H) (result : Result ℕ Missing)
    (at : Place) (new : TableView K V H) : Type 0 where
  pub map : KeepsPairs (state_of kind old) (state_of kind new)
  pub bag : KeepsOpenTickets old.arrays.tickets new.arrays.tickets
  pub marks : HasNoNewMark (tombstones_of old.arrays) (tombstones_of new.arrays)
  pub found : IsFoundFrom (hash old.hasher) 0 result new.arrays at
  pub passes : Passes (λ index. index) 0 old.arrays result new.arrays

-- a cursor advances in a table: the map and the open tickets stay, and no tombstone is new. If a live pair is ahead in its bucket, of the
-- old or of the current array, it stays in that bucket, at the next pair; otherwise it leaves
pub record Advances {K V H : Type 0} (kind : ℕ) (hash : H → K → ℕ) (old : TableView K V H) (side : Side) (index : ℕ)
    (from : Place) (result : Result (Side × ℕ) Missing) (to : Place) (new : TableView K V H) : Type 0 where
  pub map : KeepsPairs (state_of kind old) (state_of kind new)
  pub bag : KeepsOpenTickets old.arrays.tickets new.arrays.tickets
  pub marks : HasNoNewMark (tombstones_of old.arrays) (tombstones_of new.arrays)
  pub stays : pairs_ahead (bucket_on old.arrays side index) from ≢ []
      → (result ≡ Ok (side, index)) × (new.arrays ≡ old.arrays) × MovesToNext (bucket_on old.arrays side index) from to
  pub leaves : pairs_ahead (bucket_on old.arrays side index) from ≡ []
      → LeavesTo (hash old.hasher) (bound_of (length (buckets_on old.arrays side)) (index + 1)) result new.arrays to
  pub departs : pairs_ahead (bucket_on old.arrays side index) from ≡ []
      → ShrinksThenPasses (λ to. to.1) side index old.arrays result new.arrays
