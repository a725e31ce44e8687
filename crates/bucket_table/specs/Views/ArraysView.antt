-- What contracts see of a table's arrays, and what holds of them. No array has length 0: the empty list means that there is none.
use Rattle.std.specs.Prelude.{ℕ, ◌≡◌, ◌*◌, ◌^◌, ◌<◌, ◌≤◌, ◌++◌, ◌⊎◌, Bool, true, List, [], Option, Some, None, length, map}
use Rattle.std.specs.List.{All, Contains, IsDistinct}
use Rattle.bucket_slots.specs.ArrayView.{bucket_at}
use Rattle.bucket_slots.specs.BucketView.{BucketView, pairs_in}
use Rattle.bucket_slots.specs.Homes.{Meets}
use Rattle.bucket_slots.specs.Sizing.{IsLength, IsPowerIn}
use Rattle.bucket_table.specs.Rehash.Relocation.{AreTwoArrays, entries_among, marks_among}
use Rattle.bucket_table.specs.Rehash.State.{TicketState}
use Rattle.bucket_table.specs.Rehash.Covered.{IsCovered}

-- the minimum and the maximum, the current array, and the old one during an incremental rehash, with its tickets
pub record ArraysView (K V : Type 0) : Type 0 where
  pub minimum : ℕ
  pub maximum : ℕ
  pub current : List (BucketView K V)
  pub linked : List (BucketView K V)
  pub tickets : TicketState

-- the buckets of an array, or none if there is no array
abbrev pub list_of : {A : Type 0} → Option (List A) → List A
list_of None = []
list_of (Some xs) = xs

-- the live pairs of the current array with their bytes, and then of the old one
abbrev pub entries_of : {K V : Type 0} → ArraysView K V → List ((K × V) × ℕ)
entries_of arrays = entries_among arrays.current ++ entries_among arrays.linked

-- the pairs of the current array's tombstones with their epochs, and then of the old one
abbrev pub tombstones_of : {K V : Type 0} → ArraysView K V → List ((K × V) × ℕ)
tombstones_of arrays = marks_among arrays.current ++ marks_among arrays.linked

-- the map that the arrays represent
abbrev pub pairs_of : {K V : Type 0} → ArraysView K V → List (K × V)
pairs_of arrays = map (λ entry. entry.0) (entries_of arrays)

-- which buckets are killed
abbrev pub killed_flags : {K V : Type 0} → List (BucketView K V) → List Bool
killed_flags buckets = map (λ bucket. bucket.killed) buckets

-- no unit of the old array is lost: while it exists, one is open or left to issue; and a killed bucket has no live pair
pub record LosesNoUnit {K V : Type 0} (linked : List (BucketView K V)) (tickets : TicketState) : Type 0 where
  pub covered : IsCovered (killed_flags linked) tickets
  pub going_on : 0 < length linked → (64 * tickets.position < tickets.len) ⊎ ((unit : ℕ) × Contains tickets.open_units unit)
  pub emptied : All (λ bucket. bucket.killed ≡ true → pairs_in bucket ≡ []) linked

-- the capacities bound each other and the current array, which has the length of an array if there is one, an old array has a current one
-- beside it, and the tickets are those of the old one; the content of a bucket isn't restricted, since buckets are lent for writing
pub record AreArrays {K V : Type 0} (arrays : ArraysView K V) : Type 0 where
  pub maximum_power : IsPowerIn 64 (2 ^ 63) arrays.maximum
  pub bounded : arrays.minimum ≤ arrays.maximum
  pub within : 32 * length arrays.current ≤ arrays.maximum
  pub long : 0 < length arrays.current → IsLength (length arrays.current)
  pub beside : 0 < length arrays.linked → 0 < length arrays.current
  pub tickets_len : arrays.tickets.len ≡ length arrays.linked

-- each live pair of both arrays is in its home, targets are empty, and no unit is lost
pub record ArePlaced {K V : Type 0} (hash : K → ℕ) (arrays : ArraysView K V) : Type 0 where
  pub homes : AreTwoArrays hash arrays.current arrays.linked
  pub rehashed : LosesNoUnit arrays.linked arrays.tickets

-- the arrays are one map
pub record IsOneMap {K V : Type 0} (eq : K → K → Bool) (hash : K → ℕ) (arrays : ArraysView K V) : Type 0 where
  pub distinct : IsDistinct eq (map (λ pair. pair.0) (pairs_of arrays))
  pub placed : ArePlaced hash arrays

-- what contracts see of a table
pub record TableView (K V H : Type 0) : Type 0 where
  pub hasher : H
  pub arrays : ArraysView K V

-- an old bucket is a source of the current bucket at an index
abbrev pub IsSource : {K V : Type 0} → ArraysView K V → ℕ → ℕ → Type 0
IsSource arrays index i = Meets (length arrays.linked) i (length arrays.current) index

-- each source of the current bucket at an index is killed
abbrev pub AreSourcesKilled : {K V : Type 0} → ArraysView K V → ℕ → Type 0
AreSourcesKilled arrays index = (i : ℕ) → i < length arrays.linked → IsSource arrays index i → (bucket_at arrays.linked i).killed ≡ true
