-- What finding a bucket for a writer does to a table.
use Rattle.std.specs.Prelude.{ℕ, ◌≡◌, ◌<◌, ◌⊎◌, Result, Ok, Err, length}
use Rattle.bucket_slots.specs.Homes.{IsHome}
use Rattle.bucket_table.specs.Views.ArraysView.{AreSourcesKilled, ArraysView, TableView}
use Rattle.bucket_table.specs.Resize.Asking.{ResizesIf}
use Rattle.bucket_table.specs.Resize.Growing.{Grows, WriterAsksGrowth}
use Rattle.bucket_table.specs.Resize.Overfull.{GrowsOverfull}
use Rattle.bucket_table.specs.Map.MapState.{KeepsPairs, state_of}
use Rattle.bucket_table.specs.Map.Preparing.{HomeNeedsMemory}
use Rattle.bucket_table.specs.Views.Keeping.{Keeps, KeepsArrays}
use Rattle.bucket_table.specs.Views.Locking.{IsLocked}
use Rattle.bucket_table.specs.Map.Refusing.{IsRefused}
use Rattle.bucket_table.specs.Resize.Resizing.{MakesArray}
use Rattle.bucket_table.specs.Views.Sides.{buckets_on}
use Rattle.bucket_table.specs.Rehash.Units.{WorksUnits}
use Rattle.bucket_table.specs.declared.arrays.side.Side.{Side}
use Rattle.bucket_table.specs.declared.arrays.side.Side.TheVariants.{Old}
use Rattle.bucket_table.specs.declared.hash_table.ResizeRule.{ResizeRule}
use Rattle.bucket_table.specs.declared.hash_table.ResizeRule.TheVariants.{Counted}

-- the arrays are made ready for a current bucket: a first array is made if there is none, and beside an old one a unit is worked and each
-- source of the bucket moved
pub record MakesReady {K V : Type 0} (old : ArraysView K V) (index : ℕ) (new : ArraysView K V) : Type 0 where
  pub first : length old.linked ≡ 0 → MakesArray old new
  pub beside : 0 < length old.linked → KeepsArrays old new
  pub units : WorksUnits 1 (λ home. home ≡ index) old new
  pub killed : AreSourcesKilled new index

-- and then they may grow: the side shows whether they did, and they do so only if a growth is due there; a caller that needs this
-- definition unfolds it, since the search of one that doesn't would go through all of it
unfoldable pub ReadiesThenGrows : {K V : Type 0} → ℕ → ℕ → ArraysView K V → Side → ℕ → ArraysView K V → Type 0
ReadiesThenGrows {K} {V} kind hash old side index new = (between : ArraysView K V) × MakesReady old index between
    × ResizesIf (WriterAsksGrowth kind hash between index) between new × Grows side between new

-- or, if the rule is to grow for an overfull home, they grew for one, and the side is that of the old array
unfoldable pub ReadiesOrGrows : {K V : Type 0} → ResizeRule → ℕ → ℕ → ArraysView K V → Side → ℕ → ArraysView K V → Type 0
ReadiesOrGrows {K} {V} rule kind hash old side index new =
    ReadiesThenGrows kind hash old side index new ⊎ ((rule ≡ Counted) × (side ≡ Old) × GrowsOverfull hash old new)

-- no bucket is found for a hash: a unit was worked, and allocation failed for a source of its home; without an old array there was no
-- current one either, and nothing changes
pub record FindsNone {K V : Type 0} (hash : ℕ) (old new : ArraysView K V) : Type 0 where
  pub kept : KeepsArrays old new
  pub units : WorksUnits 1 (IsHome (length new.current) hash) old new
  pub alone : length old.linked ≡ 0 → (length old.current ≡ 0) × (new ≡ old)
  pub home : 0 < length new.current → HomeNeedsMemory hash old new

-- a hash's home in the array of its side is found for a writer, and may be locked; the map, the tombstones and the open tickets stay
pub record FindsBucket {K V H : Type 0} (rule : ResizeRule) (kind hash : ℕ) (old : TableView K V H) (side : Side) (index : ℕ)
    (new : TableView K V H) : Type 0 where
  pub map : KeepsPairs (state_of kind old) (state_of kind new)
  pub kept : Keeps old.arrays new.arrays
  pub home : IsHome (length (buckets_on new.arrays side)) hash index
  pub locked : IsLocked new.arrays side index
  pub found : ReadiesOrGrows rule kind hash old.arrays side index new.arrays

-- the result of finding a writer's bucket, its side and its index, and what it leaves; if it fails, the table is prepared
abbrev pub Finds : {K V H E : Type 0} → ResizeRule → ℕ → ℕ → TableView K V H → Result (Side × ℕ) E → TableView K V H → Type 0
Finds rule kind hash old (Ok found) new = FindsBucket rule kind hash old found.0 found.1 new
Finds rule kind hash old (Err refused) new = IsRefused kind hash old new

-- a writer's bucket is found or not, and then this is done
pub record FindsThen {K V H : Type 0} (rule : ResizeRule) (kind hash : ℕ) (old : TableView K V H)
    (Then : Result (Side × ℕ) (Unit {0}) → TableView K V H → Type 0) : Type 0 where
  pub answer : Result (Side × ℕ) (Unit {0})
  pub between : TableView K V H
  pub found : Finds rule kind hash old answer between
  pub done : Then answer between
