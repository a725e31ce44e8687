-- What calls do to the tombstones of an index.
use Rattle.std.specs.Prelude.{ℕ, ◌≡◌, ◌⊎◌, ◌++◌, Bool, true, false, List, [], ◌∷◌, length}
use Rattle.std.specs.List.{Contains}
use Rattle.std.specs.List.Sorted.{IsPermutation}
use Rattle.bucket_slots.specs.Marking.{HasNoNewMark}
use Rattle.bucket_table.specs.Map.LookingUp.{IsThere}
use Rattle.bucket_table.specs.Rehash.Relocation.{marks_among}
use Rattle.bucket_table.specs.Views.ArraysView.{ArraysView, tombstones_of, pairs_of}

-- these tombstones are earlier ones, including all those of the current array, and all there were if there is no old array
pub record AreEarlierMarks {K V : Type 0} (old : ArraysView K V) (marks : List ((K × V) × ℕ)) : Type 0 where
  pub earlier : HasNoNewMark (tombstones_of old) marks
  pub current : (mark : (K × V) × ℕ) → Contains (marks_among old.current) mark → Contains marks mark
  pub all : length old.linked ≡ 0 → marks ≡ tombstones_of old

-- the pair whose key matches is a tombstone of epoch 0, besides earlier tombstones
pub record AddsMark {K V : Type 0} (matches : K → Bool) (old new : ArraysView K V) : Type 0 where
  pub pair : K × V
  pub there : IsThere matches (pairs_of old) pair
  pub earlier : List ((K × V) × ℕ)
  pub kept : AreEarlierMarks old earlier
  pub marks : IsPermutation ((pair, 0) ∷ earlier) (tombstones_of new)

-- no array is left, if the minimum is 0
abbrev pub LeavesNoArray : {K V : Type 0} → ArraysView K V → Type 0
LeavesNoArray arrays = (arrays.minimum ≡ 0) × (arrays.current ++ arrays.linked ≡ [])

-- the tombstones stay, or no array is left
abbrev pub KeepsMarks : {K V : Type 0} → ArraysView K V → ArraysView K V → Type 0
KeepsMarks old new = (tombstones_of new ≡ tombstones_of old) ⊎ LeavesNoArray new

-- a removed pair becomes a tombstone, or no array is left; if none is removed, the tombstones are earlier ones
abbrev pub MarksRemoved : {K V : Type 0} → (K → Bool) → Bool → ArraysView K V → ArraysView K V → Type 0
MarksRemoved matches true old new = AddsMark matches old new ⊎ LeavesNoArray new
MarksRemoved matches false old new = AreEarlierMarks old (tombstones_of new)
