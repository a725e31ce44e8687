-- What a call does to a locked bucket, and what it returns.
use Rattle.std.specs.Prelude.{ℕ, ◌≡◌, Bool, None, Result, Ok, Err}
use Rattle.std.specs.Borrow.{MutBor}
use Rattle.std.specs.declared.cmp.PartialEq as equals
use Rattle.std.specs.declared.default.Default as default
use Rattle.bucket_slots.specs.declared.lru.LruList as list
use Rattle.bucket_slots.specs.BucketView.{BucketView, Place, slot_in}
use Rattle.bucket_slots.specs.Clearing.{slots_for_insertion}
use Rattle.bucket_slots.specs.Placing.{place_for_next}
use Rattle.bucket_slots.specs.Slots.{live}
use Rattle.bucket_slots.specs.Digested.{HasNoSlot}
use Rattle.bucket_table.specs.Resize.Asking.{RemovesAndShrinks}
use Rattle.bucket_table.specs.Views.ArraysView.{TableView}
use Rattle.bucket_table.specs.Views.Sides.{bucket_on, with_bucket}
use Rattle.bucket_table.specs.declared.key_hash.KeyHash as key_hash
use Rattle.bucket_table.specs.declared.hash_table.locked_bucket.LockedBucket.{LockedBucket}

module _ {K V H L : Type 0} {TYPE : ℕ} {equal : equals.Ghosts K} {hashing : key_hash.Ghosts H K} {listing : list.Ghosts L}
    {fresh : default.Ghosts L} where
  -- the bucket itself
  abbrev pub bucket_in : LockedBucket K V H L TYPE equal hashing listing fresh → BucketView K V
  bucket_in locked = bucket_on locked.table.now.arrays locked.side locked.index

  -- the bucket is changed like that, and it is the same bucket of the same table, which changes nowhere else
  pub record Changes (old new : LockedBucket K V H L TYPE equal hashing listing fresh)
      (change : BucketView K V → BucketView K V) : Type 0 where
    pub same_table : new.table.ghost_name ≡ old.table.ghost_name
    pub same_side : new.side ≡ old.side
    pub same_index : new.index ≡ old.index
    pub table : new.table.now ≡ with_bucket old.table.now old.side old.index (change (bucket_in old))

  -- the bucket is changed like that, and if that leaves no live pair in it, the table may shrink by the plan; the table is returned
  pub record ChangesThenShrinks (old : LockedBucket K V H L TYPE equal hashing listing fresh) (back : MutBor (TableView K V H))
      (change : BucketView K V → BucketView K V) : Type 0 where
    pub same_table : back.ghost_name ≡ old.table.ghost_name
    pub arrays : RemovesAndShrinks None old.table.now.arrays old.side old.index (change (bucket_in old)) back.now.arrays

-- an inserted pair is in the first slot that is then free or new; a failure returns the pair, and no slot was free
abbrev pub AnswersPlacing : {K V : Type 0} → ℕ → (ℕ → Bool) → K × V → ℕ → BucketView K V → Result Place (K × V) → BucketView K V → Type 0
AnswersPlacing kind keeps pair byte old (Ok at) new =
    (at ≡ place_for_next (slots_for_insertion kind keeps old)) × (slot_in new at ≡ live pair byte)
AnswersPlacing kind keeps pair byte old (Err back) new = (back ≡ pair) × HasNoSlot kind keeps old
