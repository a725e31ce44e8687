-- What a table is after a loan of the value in one of its slots for writing.
use Rattle.std.specs.Prelude.{ℕ, Bool, true, Ok, Option, IfNone, IfSome}
use Rattle.std.specs.Borrow.{Fml, Lends, LendsSo, MutBor, RattleType}
use denote.Param.{number}
use Rattle.std.specs.declared.cmp.PartialEq as equals
use Rattle.std.specs.declared.default.Default as default
use Rattle.bucket_slots.specs.declared.lru.LruList as list
use Rattle.bucket_slots.specs.BucketView.{Place, bucket_with_value}
use Rattle.bucket_slots.specs.Evicting.{slots_touched}
use Rattle.bucket_table.specs.Map.ByKey.{ChangesAt, PreparesThen, Swaps}
use Rattle.bucket_table.specs.Map.MapState.{state_of}
use Rattle.bucket_table.specs.Map.Preparing.{IsPrepared}
use Rattle.bucket_table.specs.Views.ArraysView.{TableView}
use Rattle.bucket_table.specs.Views.Sides.{bucket_on, with_bucket}
use Rattle.bucket_table.specs.Views.TableRow.{table_row}
use Rattle.bucket_table.specs.declared.key_hash.KeyHash as key_hash
use Rattle.bucket_table.specs.declared.arrays.side.Side.{Side}

-- the table with this value in a slot of a bucket of one side
abbrev pub with_value : {K V H : Type 0} → TableView K V H → Side → ℕ → Place → V → TableView K V H
with_value table side index at value = with_bucket table side index (bucket_with_value (bucket_on table.arrays side index) at value)

-- the value of a matching key was `before` and is now `value`: a unit was worked and the sources of a hash's home moved, and then one slot
-- was written, and touched if the call touches
pub record WritesUnder {K V H : Type 0} (touches : Bool) (matches : K → Bool) (kind hash : ℕ) (old : TableView K V H) (before value : V)
    (new : TableView K V H) : Type 0 where
  pub map : Swaps matches value (state_of kind old) (Ok before) (state_of kind new)
  pub arrays : PreparesThen kind hash old (λ between.
      ChangesAt matches (λ bucket at. bucket_with_value (slots_touched touches bucket at) at value) true between new)

module _ (K V H L : RattleType) (TYPE : ℕ) (equal : equals.Ghosts K.Denot) (hashing : key_hash.Ghosts H.Denot K.Denot)
    (listing : list.Ghosts L.Denot) (fresh : default.Ghosts L.Denot) (table : MutBor (TableView K.Denot V.Denot H.Denot)) where
  -- the slot has the last value written through the loan, and nothing else changes
  abbrev pub LendsSlot : Side → ℕ → Place → MutBor V.Denot → Fml
  LendsSlot side index at loan =
      Lends (table_row K V H L (number TYPE) equal hashing listing fresh) V table loan (with_value table.now side index at)

  -- the value of a matching key was what the loan showed, and is now the last one written through it, and its slot is touched if the call
  -- touches; if nothing is lent, only a unit was worked
  abbrev pub LendsUnder : Bool → (K.Denot → Bool) → ℕ → Option (MutBor V.Denot) → Fml
  LendsUnder touches matches hash loan =
      LendsSo (table_row K V H L (number TYPE) equal hashing listing fresh) V table loan
      (λ new value. IfSome loan (λ lent. WritesUnder touches matches TYPE hash table.now lent.now value new))
      (λ new. IfNone loan (IsPrepared TYPE hash table.now new))
