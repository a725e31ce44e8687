-- What working units of the old array does, one after another, as a look-up, a cursor and a walk do.
use Rattle.std.specs.Prelude.{ℕ, ◌+◌, ◌*◌, ◌<◌, ◌≤◌, ◌≡◌, ◌⊎◌, Bool, true, false, List, [], Result, Ok, Err, length}
use Rattle.bucket_slots.specs.ArrayView.{bucket_at}
use Rattle.bucket_slots.specs.BucketView.{BucketView, marks_in, pairs_in}
use Rattle.bucket_slots.specs.Homes.{IsInRange}
use Rattle.bucket_table.specs.Views.ArraysView.{ArraysView, IsSource, killed_flags}
use Rattle.bucket_table.specs.Rehash.Covered.{IsUnitKilled}
use Rattle.bucket_table.specs.Views.Keeping.{KeepsArrays, StayKilled}

-- the buckets from `start` up to but not including `end` are killed
abbrev pub AreKilled : {K V : Type 0} → ℕ → ℕ → List (BucketView K V) → Type 0
AreKilled start end buckets = (i : ℕ) → start ≤ i → i < end → (bucket_at buckets i).killed ≡ true

-- some old buckets were relocated: the tickets, the pairs and everything but the contents of the arrays stay
pub record RelocatesSome {K V : Type 0} (old new : ArraysView K V) : Type 0 where
  pub tickets_are : new.tickets ≡ old.tickets
  pub killed : StayKilled old.linked new.linked
  pub kept : KeepsArrays old new

-- what working the old buckets from `start` up to but not including `end` leaves, and whether all of them are killed
abbrev pub WorksRange : {K V : Type 0} → ℕ → ℕ → Bool → ArraysView K V → ArraysView K V → Type 0
WorksRange start end success old new = RelocatesSome old new × (success ≡ true → AreKilled start end new.linked)

-- what working a unit leaves, and whether the whole unit is killed
abbrev pub WorksUnit : {K V : Type 0} → ℕ → Bool → ArraysView K V → ArraysView K V → Type 0
WorksUnit unit success old new = RelocatesSome old new × (success ≡ true → IsUnitKilled (killed_flags new.linked) unit)

-- the current array isn't shorter, and each old bucket from `start` up to but not including `end` has at most 32 live pairs
pub record NeedsNoMemory {K V : Type 0} (start end : ℕ) (arrays : ArraysView K V) : Type 0 where
  pub no_shorter : length arrays.linked ≤ length arrays.current
  pub few : (i : ℕ) → start ≤ i → i < end → length (pairs_in (bucket_at arrays.linked i)) ≤ 32

-- allocation failed for one of some old buckets: it isn't killed, and those of them before it are. At entry it needed memory: the current
-- array was shorter, or the bucket had more than 32 live pairs
pub record NeedsMemory {K V : Type 0} (IsOne : ℕ → Type 0) (old new : ArraysView K V) : Type 0 where
  pub index : ℕ
  pub one : IsOne index
  pub within : index < length new.linked
  pub before : (i : ℕ) → IsOne i → i < index → (bucket_at new.linked i).killed ≡ true
  pub alive : (bucket_at new.linked index).killed ≡ false
  pub needed : NeedsNoMemory index (index + 1) old → ⊥

-- each bucket is as it was, or its pairs have moved: it is killed, has none, and keeps its tombstones
abbrev pub SpendsSome : {K V : Type 0} → List (BucketView K V) → List (BucketView K V) → Type 0
SpendsSome was is = (i : ℕ) → (bucket_at is i ≡ bucket_at was i)
    ⊎ (((bucket_at is i).killed ≡ true) × (pairs_in (bucket_at is i) ≡ []) × (marks_in (bucket_at is i) ≡ marks_in (bucket_at was i)))

-- there is such a bucket, and it isn't killed
abbrev pub IsAlive : {K V : Type 0} → List (BucketView K V) → ℕ → Type 0
IsAlive buckets i = (i < length buckets) × ((bucket_at buckets i).killed ≡ false)

-- a bucket that isn't killed still exists and still isn't killed, unless it is one of the given ones
abbrev pub KillsOnly : {K V : Type 0} → (ℕ → Type 0) → List (BucketView K V) → List (BucketView K V) → Type 0
KillsOnly IsOne was is = (i : ℕ) → IsAlive was i → IsOne i ⊎ IsAlive is i

-- the old buckets that some steps may move: those of the next units, one a step, and the sources of the current buckets that are made ready
abbrev pub IsDue : {K V : Type 0} → ℕ → (ℕ → Type 0) → ArraysView K V → ℕ → Type 0
IsDue steps GetsReady arrays i = IsInRange (64 * arrays.tickets.position) (64 * (arrays.tickets.position + steps)) i
    ⊎ ((index : ℕ) × GetsReady index × IsSource arrays index i)

-- the next `count` units of the old array are easy: the bag has room for a ticket, and no memory is needed
pub record UnitsNeedNoMemory {K V : Type 0} (count : ℕ) (arrays : ArraysView K V) : Type 0 where
  pub has_room : length arrays.tickets.open_units < 2047
  pub easy : NeedsNoMemory (64 * arrays.tickets.position) (64 * (arrays.tickets.position + count)) arrays

-- `count` units were worked: each bucket of them is killed, and the position is past them, or past the last one
pub record AreWorked {K V : Type 0} (count : ℕ) (old new : ArraysView K V) : Type 0 where
  pub position : (old.tickets.position + count ≤ new.tickets.position) ⊎ (length new.linked ≤ 64 * new.tickets.position)
  pub killed : (i : ℕ) → 64 * old.tickets.position ≤ i → i < 64 * (old.tickets.position + count) → i < length new.linked
      → (bucket_at new.linked i).killed ≡ true

-- an old array stays after some steps, each of which may work a unit: no bucket of it gets a pair, the same number of tickets is open, the
-- position has risen by at most one a step, and the next units are worked as long as they are easy
pub record HasWorkedUnits {K V : Type 0} (steps : ℕ) (old new : ArraysView K V) : Type 0 where
  pub len : length new.linked ≡ length old.linked
  pub spent : SpendsSome old.linked new.linked
  pub open_len : length new.tickets.open_units ≡ length old.tickets.open_units
  pub least : old.tickets.position ≤ new.tickets.position
  pub most : new.tickets.position ≤ old.tickets.position + steps
  pub worked : (count : ℕ) → count ≤ steps → UnitsNeedNoMemory count old → AreWorked count old new

-- some steps, each of which works a unit, and some current buckets that are made ready: no old array is new, an earlier one is dropped or
-- stays, and only old buckets of the next units, one a step, and sources of these buckets are killed
pub record WorksUnits {K V : Type 0} (steps : ℕ) (GetsReady : ℕ → Type 0) (old new : ArraysView K V) : Type 0 where
  pub stands : 0 < length new.linked → HasWorkedUnits steps old new
  pub only : KillsOnly (IsDue steps GetsReady old) old.linked new.linked

-- the steps of a walk through some buckets: one before each, and one more if it fails
abbrev pub steps_of : {A E : Type 0} → Result A E → ℕ → ℕ
steps_of (Ok done) count = count
steps_of (Err refused) count = count + 1
