-- What a borrowed bucket is after a loan of a value in it for writing.
use Rattle.std.specs.Prelude.{ℕ, []}
use Rattle.std.specs.Borrow.{Bor, Fml, MutBor, RattleType, follows}
use mir.Syntax.{named}
use denote.Param.{number}
use Rattle.std.specs.declared.cmp.PartialEq as equals
use Rattle.std.specs.declared.default.Default as default
use Rattle.bucket_slots.specs.declared.lru.LruList as list
use Rattle.bucket_slots.specs.BucketView.{Place, bucket_with_value}
use Rattle.bucket_table.specs.Views.ArraysView.{TableView}
use Rattle.bucket_table.specs.Views.Sides.{bucket_on, with_bucket}
use Rattle.bucket_table.specs.declared.key_hash.KeyHash as key_hash
use Rattle.bucket_table.specs.declared.hash_table.locked_bucket.LockedBucket.{LockedBucket}
use Rattle.bucket_table.specs.contracts.hash_table.locked_bucket.LockedBucket as locked_bucket
use Rattle.bucket_table.specs.Views.LockedLaws.{locked_with_value_is}

module _ {K V H L : Type 0} {TYPE : ℕ} {equal : equals.Ghosts K} {hashing : key_hash.Ghosts H K} {listing : list.Ghosts L}
    {fresh : default.Ghosts L} where
  -- the table with this value in the slot at the place
  abbrev pub table_with_value : LockedBucket K V H L TYPE equal hashing listing fresh → Place → V → TableView K V H
  table_with_value locked place value = with_bucket locked.table.now locked.side locked.index
      (bucket_with_value (bucket_on locked.table.now.arrays locked.side locked.index) place value)

  -- the borrowed bucket with that table
  abbrev pub locked_with_value : LockedBucket K V H L TYPE equal hashing listing fresh → Place → V
      → LockedBucket K V H L TYPE equal hashing listing fresh
  locked_with_value locked place value =
      record {
        table = record locked.table { now = table_with_value locked place value };
        side = locked.side;
        index = locked.index;
        locked = locked_with_value_is locked.table.now.arrays locked.side locked.index place value locked.locked;
      }

module _ (K V H L : RattleType) (TYPE : ℕ) (equal : equals.Ghosts K.Denot) (hashing : key_hash.Ghosts H.Denot K.Denot)
    (listing : list.Ghosts L.Denot) (fresh : default.Ghosts L.Denot) where
  -- the slot at the place has the last value written through the loan
  abbrev pub LendsLocked : MutBor (LockedBucket K.Denot V.Denot H.Denot L.Denot TYPE equal hashing listing fresh) → Place
      → Bor K.Denot × MutBor V.Denot → Fml
  LendsLocked locked place parts = follows
      (locked_bucket.the_row (record { mir = named 1; lft = [] }) K V H L (number TYPE) equal hashing listing fresh) V
      locked.ghost_name parts.1.ghost_name (locked_with_value locked.now place)
