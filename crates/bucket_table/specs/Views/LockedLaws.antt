-- A locked bucket can still be locked after its pairs have changed.
use Rattle.std.proofs.Common.{ℕ, zero, suc, ◌≡◌, length, refl, subst, ◌∙◌, length-set, get_or-set_same}
use Rattle.bucket_slots.specs.ArrayView.{bucket_at}
use Rattle.bucket_slots.specs.BucketView.{BucketView, Place, bucket_with_value, empty_bucket, with_slot_at}
use Rattle.bucket_slots.specs.Homes.{Meets}
use Rattle.bucket_slots.specs.Slots.{Slot}
use Rattle.bucket_table.specs.Views.ArraysView.{ArraysView}
use Rattle.bucket_table.specs.Views.Locking.{IsLocked}
use Rattle.bucket_table.specs.Views.Sides.{arrays_with, buckets_on}
use Rattle.bucket_table.specs.declared.arrays.side.Side.{Side}
use Rattle.bucket_table.specs.declared.arrays.side.Side.TheVariants.{Current, Old}

module _ {K V : Type 0} where
  pub locked_change : (a : ArraysView K V) (side : Side) (i : ℕ) (b : BucketView K V) → IsLocked a side i
      → b.killed ≡ (bucket_at (buckets_on a side) i).killed → IsLocked (arrays_with a side i b) side i
  locked_change a Old i b locked same = record {
    within = rw (length-set a.linked i b) locked.within;
    killed = λ e. absurd cc;
    alive = λ e. rw (get_or-set_same a.linked i b empty_bucket locked.within) (same ∙ locked.alive e);
    vacant = locked.vacant;
  }
  locked_change a Current i b locked same = record {
    within = rw (length-set a.current i b) locked.within;
    killed = λ e k below meets. locked.killed e k below (subst (λ (n : ℕ). Meets (length a.linked) k n i) (length-set a.current i b) meets);
    alive = λ e. absurd cc;
    vacant = λ e. absurd cc;
  }

  pub killed-with_slot_at : (s : BucketView K V) (block pos : ℕ) (x : Slot K V) → (with_slot_at s block pos x).killed ≡ s.killed
  killed-with_slot_at s zero pos x = refl
  killed-with_slot_at s (suc i) pos x = refl

  -- a bucket that may be locked still may if one of its values is replaced
  pub locked_with_value_is : (a : ArraysView K V) (side : Side) (i : ℕ) (at : Place) (value : V) → IsLocked a side i
      → IsLocked (arrays_with a side i (bucket_with_value (bucket_at (buckets_on a side) i) at value)) side i
  locked_with_value_is a side i at value locked =
      locked_change a side i _ locked (killed-with_slot_at (bucket_at (buckets_on a side) i) at.block at.pos _)
