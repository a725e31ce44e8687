-- A current bucket whose pairs have moved to it from the old array.
use Rattle.std.specs.Prelude.{ℕ, ◌≡◌, ◌<◌, ◌⊎◌, length}
use Rattle.bucket_slots.specs.Homes.{IsHome}
use Rattle.bucket_table.specs.Views.ArraysView.{AreSourcesKilled, ArraysView, IsSource, TableView}
use Rattle.bucket_table.specs.Map.MapState.{KeepsPairs, state_of}
use Rattle.bucket_table.specs.Views.Keeping.{KeepsArrays}
use Rattle.bucket_table.specs.Rehash.Units.{NeedsMemory, WorksUnits}
use Rattle.bucket_table.specs.declared.arrays.Missing.{Missing}
use Rattle.bucket_table.specs.declared.arrays.Missing.TheVariants.{Nothing, Memory}

-- there is a current array, and each source of a hash's home is killed
pub record IsReady {K V : Type 0} (arrays : ArraysView K V) (hash : ℕ) : Type 0 where
  pub stands : 0 < length arrays.current
  pub killed : (index : ℕ) → IsHome (length arrays.current) hash index → AreSourcesKilled arrays index

-- allocation failed for a source of a hash's home
abbrev pub HomeNeedsMemory : {K V : Type 0} → ℕ → ArraysView K V → ArraysView K V → Type 0
HomeNeedsMemory hash old new = (index : ℕ) × IsHome (length new.current) hash index × NeedsMemory (IsSource new index) old new

-- a unit was worked, and the sources of a hash's home moved, unless allocation failed for one: the map, the length of the current array and
-- the bag of tickets stay, and without an old array nothing changes
pub record IsPrepared {K V H : Type 0} (kind hash : ℕ) (old after : TableView K V H) : Type 0 where
  pub map : KeepsPairs (state_of kind old) (state_of kind after)
  pub kept : KeepsArrays old.arrays after.arrays
  pub units : WorksUnits 1 (IsHome (length after.arrays.current) hash) old.arrays after.arrays
  pub alone : length old.arrays.linked ≡ 0 → after ≡ old
  pub home : 0 < length after.arrays.current → IsReady after.arrays hash ⊎ HomeNeedsMemory hash old.arrays after.arrays

-- why there is no home: there is no current array, or allocation failed, which can happen only beside an old one
abbrev pub IsMissing : {K V : Type 0} → Missing → ArraysView K V → Type 0
IsMissing Nothing arrays = length arrays.current ≡ 0
IsMissing Memory arrays = (0 < length arrays.linked) × (0 < length arrays.current)
