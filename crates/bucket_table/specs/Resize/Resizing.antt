-- What happens to a table's arrays in a resize.
use Rattle.std.specs.Prelude.{ℕ, ◌+◌, ◌-◌, ◌<◌, ◌≤◌, ◌≡◌, ◌⊎◌, Bool, true, false, List, [], Result, Ok, Err, length}
use Rattle.bucket_slots.specs.ArrayView.{IsNewArray}
use Rattle.bucket_slots.specs.BucketView.{BucketView}
use Rattle.bucket_table.specs.Views.ArraysView.{ArraysView}
use Rattle.bucket_table.specs.Rehash.Relocation.{entries_among}
use Rattle.bucket_table.specs.Resize.ResizePlan.{IsPlan}
use Rattle.bucket_table.specs.Resize.Sampling.{live_counts}
use Rattle.bucket_table.specs.Rehash.State.{first_tickets}
use Rattle.bucket_table.specs.declared.arrays.resize.Plan.{Plan}
use Rattle.bucket_table.specs.declared.arrays.resize.Plan.TheVariants.{Keep, GiveUp, Resize}

-- an empty array for the minimum is the current one, and there was none before
pub record IsMade {K V : Type 0} (old new : ArraysView K V) : Type 0 where
  pub none : length old.current ≡ 0
  pub fresh : List (BucketView K V)
  pub fresh_is : IsNewArray old.minimum fresh
  pub new_is : new ≡ record old { current = fresh }

-- the current array, which has no pair, is dropped
pub record IsGivenUp {K V : Type 0} (old new : ArraysView K V) : Type 0 where
  pub empty : entries_among old.current ≡ []
  pub alone : length old.linked ≡ 0
  pub new_is : new ≡ record old { current = [] }

-- the current array becomes the old one, unchanged, and an empty one for the capacity the current one
pub record IsPushed {K V : Type 0} (capacity : ℕ) (old new : ArraysView K V) : Type 0 where
  pub alone : length old.linked ≡ 0
  pub none_open : old.tickets.open_units ≡ []
  pub fresh : List (BucketView K V)
  pub fresh_is : IsNewArray capacity fresh
  pub new_is : new ≡ record old { current = fresh; linked = old.current; tickets = first_tickets (length old.current) }

-- the plan for a table's arrays: without a current array, or beside an old one, it is to keep the arrays
pub record IsPlanOf {K V : Type 0} (arrays : ArraysView K V) (plan : Plan) : Type 0 where
  pub none : length arrays.current ≡ 0 → plan ≡ Keep
  pub beside : 0 < length arrays.linked → plan ≡ Keep
  pub alone : 0 < length arrays.current → length arrays.linked ≡ 0 → IsPlan (live_counts arrays.current) arrays.minimum arrays.maximum plan

-- what a resize does, and its result: the arrays follow the plan, and if allocation fails nothing changes
abbrev pub TriesResize : {K V E : Type 0} → ArraysView K V → Result Bool E → ArraysView K V → Type 0
TriesResize old (Ok false) new = IsPlanOf old Keep × (new ≡ old)
TriesResize old (Ok true) new = (IsPlanOf old GiveUp × IsGivenUp old new)
    ⊎ ((capacity : ℕ) × IsPlanOf old (Resize capacity) × IsPushed capacity old new)
TriesResize old (Err refused) new = (capacity : ℕ) × IsPlanOf old (Resize capacity) × (new ≡ old)

-- there is a current array: the one before, or if there was none an empty one for the minimum
abbrev pub MakesArray : {K V : Type 0} → ArraysView K V → ArraysView K V → Type 0
MakesArray old new = (0 < length old.current → new ≡ old) × (length old.current ≡ 0 → IsMade old new)

-- the arrays follow the plan, or stay if allocation fails
abbrev pub Resizes : {K V : Type 0} → ArraysView K V → ArraysView K V → Type 0
Resizes old new = (answer : Result Bool (Unit {0})) × TriesResize old answer new

-- the arrays with another minimum
abbrev pub with_minimum : {K V : Type 0} → ArraysView K V → ℕ → ArraysView K V
with_minimum arrays minimum = record arrays { minimum = minimum }

-- a reservation raises the minimum if it may, and then resizes by the plan or stays
pub record Reserves {K V : Type 0} (additional : ℕ) (old : ArraysView K V) (answer : ℕ) (new : ArraysView K V) : Type 0 where
  pub too_much : old.maximum - old.minimum < additional → (answer ≡ 0) × (new ≡ old)
  pub raised : additional ≤ old.maximum - old.minimum → (answer ≡ additional) × Resizes (with_minimum old (old.minimum + additional)) new

-- a release lowers the minimum if that is large enough, and then resizes by the plan or stays
pub record Releases {K V : Type 0} (released : ℕ) (old : ArraysView K V) (answer : ℕ) (new : ArraysView K V) : Type 0 where
  pub too_much : old.minimum < released → (answer ≡ 0) × (new ≡ old)
  pub lowered : released ≤ old.minimum → (answer ≡ released) × Resizes (with_minimum old (old.minimum - released)) new
