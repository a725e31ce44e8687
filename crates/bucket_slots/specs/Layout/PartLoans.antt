-- What a part is after a loan of a bucket in it for writing.
use Rattle.std.specs.Prelude.{ℕ, List, slice_set}
use Rattle.std.specs.Borrow.{Lends, Fml, RattleType, MutBor}
use Rattle.std.specs.declared.default.Default as default
use Rattle.bucket_slots.specs.declared.lru.LruList as list
use Rattle.bucket_slots.specs.BucketView.{BucketView}
use Rattle.bucket_slots.specs.contracts.bucket.Bucket.{the_row as bucket_row}
use Rattle.bucket_slots.specs.contracts.bucket_array.part.Part.{the_row}

module _ (K V L TYPE : RattleType) (listing : list.Ghosts L.Denot) (fresh : default.Ghosts L.Denot) where
  -- that bucket of the part has the last value written through the loan
  abbrev pub LendsBucketOf : MutBor (List (BucketView K.Denot V.Denot)) → ℕ → MutBor (BucketView K.Denot V.Denot) → Fml
  LendsBucketOf part offset loan =
      Lends (the_row K V L TYPE listing fresh) (bucket_row K V L TYPE listing fresh) part loan (slice_set part.now offset)
