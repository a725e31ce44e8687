-- A shrinking for which the number of pairs must agree with the samples of a resize.
use Rattle.std.specs.Prelude.{ℕ, ◌*◌, ◌<◌, ◌≤◌, ◌≡◌, ◌⊎◌, length, max}
use Rattle.bucket_table.specs.Resize.Resizing.{IsGivenUp, IsPlanOf, IsPushed}
use Rattle.bucket_table.specs.Views.ArraysView.{ArraysView}
use Rattle.bucket_table.specs.declared.arrays.resize.Plan.{Plan}
use Rattle.bucket_table.specs.declared.arrays.resize.Plan.TheVariants.{Keep, GiveUp, Resize}

-- this number of pairs is less than an eighth of the slots
abbrev pub IsSparse : {K V : Type 0} → ℕ → ArraysView K V → Type 0
IsSparse pairs arrays = pairs < 4 * length arrays.current

-- what a plan does to the arrays if it frees slots: the current array is dropped, or becomes the old one beside an empty one for the plan's
-- capacity or for two slots a pair, whichever is more, or stays if allocation fails
abbrev pub FreesSlots : {K V : Type 0} → ℕ → Plan → ArraysView K V → ArraysView K V → Type 0
FreesSlots pairs Keep old new = new ≡ old
FreesSlots pairs GiveUp old new = IsGivenUp old new
FreesSlots pairs (Resize capacity) old new =
    ((capacity < 32 * length old.current) × (IsPushed (max capacity (pairs * 2)) old new ⊎ (new ≡ old)))
    ⊎ ((32 * length old.current ≤ capacity) × (new ≡ old))

-- if a shrink is due, the arrays follow their plan if it frees slots; otherwise they stay
abbrev pub ShrinksIf : {K V : Type 0} → Type 0 → ℕ → ArraysView K V → ArraysView K V → Type 0
ShrinksIf Asked pairs old new =
    (Asked × ((plan : Plan) × IsPlanOf old plan × FreesSlots pairs plan old new)) ⊎ ((Asked → ⊥) × (new ≡ old))
