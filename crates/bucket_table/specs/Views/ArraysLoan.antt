-- What a table's arrays lend, as the arrays see it.
use Rattle.std.specs.Prelude.{ℕ}
use Rattle.std.specs.Borrow.{Bor, Lends, Fml, RattleType, MutBor}
use Rattle.std.specs.declared.default.Default as default
use Rattle.bucket_slots.specs.declared.lru.LruList as list
use Rattle.bucket_slots.specs.BucketView.{BucketView, Place, bucket_with_value}
use Rattle.bucket_slots.specs.Evicting.{slots_touched}
use Rattle.bucket_slots.specs.contracts.bucket.Bucket.{the_row as bucket_row}
use Rattle.bucket_table.specs.Views.ArraysView.{ArraysView}
use Rattle.bucket_table.specs.Views.Sides.{arrays_with, bucket_on}
use Rattle.bucket_table.specs.Walking.Row.{row_with}
use Rattle.bucket_table.specs.contracts.arrays.Arrays.{the_row}
use Rattle.bucket_table.specs.declared.arrays.side.Side.{Side}

module _ (K V L TYPE : RattleType) (listing : list.Ghosts L.Denot) (fresh : default.Ghosts L.Denot)
    (arrays : MutBor (ArraysView K.Denot V.Denot)) where
  -- that bucket of one side has the last value written through the loan, and nothing else changes
  abbrev pub LendsBucketOn : Side → ℕ → MutBor (BucketView K.Denot V.Denot) → Fml
  LendsBucketOn side index loan =
      Lends (the_row K V L TYPE listing fresh) (bucket_row K V L TYPE listing fresh) arrays loan (arrays_with arrays.now side index)

  -- the slot of that bucket has the last value written through the loan, and nothing else changes
  abbrev pub LendsEntryOn : Side → ℕ → Place → (Bor K.Denot × MutBor V.Denot) → Fml
  LendsEntryOn side index place parts =
      Lends (the_row K V L TYPE listing fresh) V arrays parts.1
      (λ value. arrays_with arrays.now side index (bucket_with_value (bucket_on arrays.now side index) place value))

  -- the slot of that bucket is touched and has the last value written through the loan, and nothing else changes
  abbrev pub LendsTouchedOn : Side → ℕ → Place → (Bor K.Denot × MutBor V.Denot) → Fml
  LendsTouchedOn side index place parts =
      Lends (the_row K V L TYPE listing fresh) V arrays parts.1
      (λ value. arrays_with arrays.now side index
      (bucket_with_value (slots_touched listing.KEEPS (bucket_on arrays.now side index) place) place value))

  -- that bucket of the row has the last value written through the loan, and nothing else changes
  abbrev pub LendsNth : ℕ → MutBor (BucketView K.Denot V.Denot) → Fml
  LendsNth index loan = Lends (the_row K V L TYPE listing fresh) (bucket_row K V L TYPE listing fresh) arrays loan
      (row_with arrays.now index)
