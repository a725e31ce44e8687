-- What a shrinking for which the number of pairs must agree leaves of the arrays.
use Rattle.bucket_table.proofs.Words.{ArePlaced, ArraysView, Err, Keeps, None, Ok, OnErr, OnOk, Option, Result, Some, ℕ, inl, inr, refl}
use Rattle.bucket_table.proofs.Words.{◌≡◌, ◌⊎◌}
use Rattle.bucket_table.specs.Resize.Asking.{AsksShrinking, ResizesIf, ShrinksBy}
use Rattle.bucket_table.specs.Resize.Resizing.{IsPushed}
use Rattle.bucket_table.specs.Resize.Sparse.{FreesSlots, IsSparse, ShrinksIf}
use Rattle.bucket_table.specs.declared.arrays.resize.Plan.{Plan}
use Rattle.bucket_table.specs.declared.arrays.resize.Plan.TheVariants.{Keep, GiveUp, Resize}
use Rattle.bucket_table.proofs.Resize.Following.{given_up_keeps, pushed_keeps, pushed_placed}
use Rattle.bucket_table.proofs.Views.Keeping.{keeps_same}

module _ {K V : Type 0} where
  -- no bucket was emptied
  pub unemptied : (pairs : Option ℕ) (Emptied : Type 0) (index : ℕ) (arrays : ArraysView K V) → (Emptied → ⊥)
      → ShrinksBy pairs Emptied index arrays arrays
  unemptied None Emptied index arrays none = inr (λ asks. none asks.0, refl)
  unemptied (Some pairs) Emptied index arrays none = inr (λ asks. none asks.0, refl)

  -- one was emptied, and what the slots near it asked for was done
  pub emptied_plan : {Emptied : Type 0} (index : ℕ) (old new : ArraysView K V) → Emptied → ResizesIf (AsksShrinking old index) old new
      → ShrinksBy None Emptied index old new
  emptied_plan index old new empty (inl did) = inl ((empty, did.0), did.1)
  emptied_plan index old new empty (inr stays) = inr (λ asks. stays.0 asks.1, stays.1)

  pub emptied_to : {Emptied : Type 0} (pairs index : ℕ) (old new : ArraysView K V) → Emptied
      → ShrinksIf (IsSparse pairs old × AsksShrinking old index) pairs old new → ShrinksBy (Some pairs) Emptied index old new
  emptied_to pairs index old new empty (inl did) = inl ((empty, did.0), did.1)
  emptied_to pairs index old new empty (inr stays) = inr (λ asks. stays.0 asks.1, stays.1)

  -- an array is pushed, or stays
  pub pushed_or_same : {A E : Type 0} (capacity : ℕ) (old new : ArraysView K V) (result : Result A E)
      → OnOk result (IsPushed capacity old new) → OnErr result (new ≡ old) → IsPushed capacity old new ⊎ (new ≡ old)
  pushed_or_same capacity old new (Ok done) pushed same = inl pushed
  pushed_or_same capacity old new (Err refused) pushed same = inr same

  -- the pairs stay, in their homes
  pub keeps_pushed : (capacity : ℕ) (old new : ArraysView K V) → IsPushed capacity old new ⊎ (new ≡ old) → Keeps old new
  keeps_pushed capacity old new (inl pushed) = pushed_keeps capacity old new pushed
  keeps_pushed capacity old new (inr same) = rw same (keeps_same old)

  pub placed_pushed : (hash : K → ℕ) (capacity : ℕ) (old new : ArraysView K V) → IsPushed capacity old new ⊎ (new ≡ old)
      → ArePlaced hash old → ArePlaced hash new
  placed_pushed hash capacity old new (inl pushed) law = pushed_placed hash capacity old new pushed law
  placed_pushed hash capacity old new (inr same) law = rw same law

  frees_keep : (pairs : ℕ) (plan : Plan) (old new : ArraysView K V) → FreesSlots pairs plan old new → Keeps old new
  frees_keep pairs Keep old new same = rw same (keeps_same old)
  frees_keep pairs GiveUp old new gone = given_up_keeps old new gone
  frees_keep pairs (Resize capacity) old new (inl (less, pushed)) = keeps_pushed _ old new pushed
  frees_keep pairs (Resize capacity) old new (inr (more, same)) = rw same (keeps_same old)

  pub shrinks_keep : {Asked : Type 0} (pairs : ℕ) (old new : ArraysView K V) → ShrinksIf Asked pairs old new → Keeps old new
  shrinks_keep pairs old new (inl (asks, (plan, is, frees))) = frees_keep pairs plan old new frees
  shrinks_keep pairs old new (inr (none, same)) = rw same (keeps_same old)
