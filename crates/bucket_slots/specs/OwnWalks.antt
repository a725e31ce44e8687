-- The live own slots of a bucket as a bitmap: all of them, or those that a walk has yet to visit.
use Rattle.std.specs.Prelude.{ℕ, ◌≡◌, ◌≢◌, ◌<◌, ◌≤◌, cond, List, []}
use Rattle.std.specs.Int.{bit_at}
use Rattle.bucket_slots.specs.BucketView.{BucketView, Place}
use Rattle.bucket_slots.specs.Masks.{IsMaskOf}
use Rattle.bucket_slots.specs.Slots.{Slot, is_live, slot_at}
use Rattle.bucket_slots.specs.Walking.{pairs_ahead, position_after}

-- the bits are the live slots of a row from a position on
pub record NamesFrom {K V : Type 0} (slots : List (Slot K V)) (left from : ℕ) : Type 0 where
  pub ahead : (i : ℕ) → from ≤ i → bit_at left i ≡ cond (is_live (slot_at slots i)) 1 0
  pub behind : (i : ℕ) → i < from → bit_at left i ≡ 0

-- the bits are the live own slots after a place among the own slots
pub record AreOwnAfter {K V : Type 0} (bucket : BucketView K V) (at : Place) (left : ℕ) : Type 0 where
  pub own : at.block ≡ 0
  pub names : NamesFrom bucket.own left (position_after at.pos)

-- the same, and no other slot after the place is live
pub record AreAllAfter {K V : Type 0} (bucket : BucketView K V) (at : Place) (left : ℕ) : Type 0 where
  pub none : left ≡ 0 → pairs_ahead bucket at ≡ []
  pub some : left ≢ 0 → AreOwnAfter bucket at left

-- the bits are the live own slots, and there is no chain
pub record AreAllOwn {K V : Type 0} (bucket : BucketView K V) (live : ℕ) : Type 0 where
  pub mask : IsMaskOf is_live bucket.own live
  pub chainless : bucket.chain ≡ []
