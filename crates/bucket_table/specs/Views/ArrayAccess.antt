-- What a table is while its current array is lent, which is made first if there was none.
use Rattle.std.specs.Prelude.{◌≡◌, List, length, Result, Ok, Err}
use Rattle.std.specs.Borrow.{Bor, Fml, MutBor, RattleType}
use denote.Follow.{follows_so}
use mathlib.Core.Option.{none}
use Rattle.std.specs.declared.cmp.PartialEq as equals
use Rattle.std.specs.declared.default.Default as default
use Rattle.bucket_slots.specs.declared.lru.LruList as list
use Rattle.bucket_slots.specs.BucketView.{BucketView}
use Rattle.bucket_table.specs.Views.ArraysView.{TableView}
use Rattle.bucket_table.specs.Resize.Resizing.{MakesArray}
use Rattle.bucket_table.specs.Views.TableRow.{table_row}
use Rattle.bucket_table.specs.declared.key_hash.KeyHash as key_hash

-- the array that is lent is the current one, made if there was none, and the hasher stays; if it fails, there was none, and nothing changes
abbrev pub GetsArray : {K V H E : Type 0} → TableView K V H → Result (Bor (List (BucketView K V))) E → TableView K V H → Type 0
GetsArray old (Ok array) new = (new.arrays.current ≡ array.now) × MakesArray old.arrays new.arrays × (new.hasher ≡ old.hasher)
GetsArray old (Err refused) new = (length old.arrays.current ≡ 0) × (new ≡ old)

module _ (K V H L TYPE : RattleType) (equal : equals.Ghosts K.Denot) (hashing : key_hash.Ghosts H.Denot K.Denot)
    (listing : list.Ghosts L.Denot) (fresh : default.Ghosts L.Denot) (table : MutBor (TableView K.Denot V.Denot H.Denot)) where
  -- this holds of the final value of the table
  abbrev pub EndsAs : (TableView K.Denot V.Denot H.Denot → Type 0) → Fml
  EndsAs fact = follows_so (table_row K V H L TYPE equal hashing listing fresh) (table_row K V H L TYPE equal hashing listing fresh)
      table.ghost_name none (λ _ _. Unit {0}) fact
