-- What a table is after a removal, which may shrink it.
use Rattle.std.proofs.Common.{ℕ, ◌≡◌, ◌⊎◌, ◌++◌, inl, inr, Bool, true, false, [], Some, Result, Ok, Err}
use Rattle.std.proofs.lemmas.List.{nil_from_length}
use Rattle.bucket_slots.specs.BucketView.{BucketView}
use Rattle.bucket_table.specs.Resize.Asking.{RemovesAndShrinks}
use Rattle.bucket_table.specs.Resize.Resizing.{IsGivenUp, IsPlanOf, IsPushed, TriesResize}
use Rattle.bucket_table.specs.Resize.Sparse.{FreesSlots}
use Rattle.bucket_table.specs.Views.ArraysView.{ArraysView}
use Rattle.bucket_table.specs.Views.Sides.{arrays_with}
use Rattle.bucket_table.specs.declared.arrays.resize.Plan.{Plan}
use Rattle.bucket_table.specs.declared.arrays.resize.Plan.TheVariants.{GiveUp, Keep, Resize}
use Rattle.bucket_table.specs.declared.arrays.side.Side.{Side}
use Rattle.bucket_table.proofs.CallerLemmas.{gives_up_at_zero}

module _ {K V : Type 0} where
  -- the arrays stay, or are dropped if the minimum is 0, or are pushed
  abbrev pub Ends : ArraysView K V → ArraysView K V → Type 0
  Ends old new = (new ≡ old) ⊎ (((old.minimum ≡ 0) × IsGivenUp old new) ⊎ ((capacity : ℕ) × IsPushed capacity old new))

  pub tried : {E : Type 0} (old new : ArraysView K V) (answer : Result Bool E) → TriesResize old answer new → Ends old new
  tried old new (Ok false) tries = inl tries.1
  tried old new (Ok true) (inl gone) = inr (inl (gives_up_at_zero old gone.0, gone.1))
  tried old new (Ok true) (inr moved) = inr (inr (moved.0, moved.2))
  tried old new (Err refused) tries = inl tries.2

  -- and so they do if slots are freed
  pub freed : (pairs : ℕ) (plan : Plan) (old new : ArraysView K V) → IsPlanOf old plan → FreesSlots pairs plan old new → Ends old new
  freed pairs Keep old new is same = inl same
  freed pairs GiveUp old new is gone = inr (inl (gives_up_at_zero old is, gone))
  freed pairs (Resize capacity) old new is (inl (less, inl pushed)) = inr (inr (_, pushed))
  freed pairs (Resize capacity) old new is (inl (less, inr same)) = inl same
  freed pairs (Resize capacity) old new is (inr (more, same)) = inl same

  -- a bucket is another one, and then the arrays are as they are left
  pub removed_ends : (pairs : ℕ) (arrays : ArraysView K V) (side : Side) (index : ℕ) (bucket : BucketView K V) (new : ArraysView K V)
      → RemovesAndShrinks (Some pairs) arrays side index bucket new → Ends (arrays_with arrays side index bucket) new
  removed_ends pairs arrays side index bucket new (inl (asks, (plan, is, frees))) =
      freed pairs plan (arrays_with arrays side index bucket) new is frees
  removed_ends pairs arrays side index bucket new (inr stays) = inl stays.1

  -- dropping an array leaves none
  pub none_left : (old new : ArraysView K V) → (old.minimum ≡ 0) × IsGivenUp old new
      → (new.minimum ≡ 0) × (new.current ++ new.linked ≡ [])
  none_left old new (least, gone) = rw gone.new_is (least, nil_from_length old.linked gone.alone)
