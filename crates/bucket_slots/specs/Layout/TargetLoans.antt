-- What some buckets are after a loan of one of them for writing.
use Rattle.std.specs.Prelude.{ℕ, List, slice_set}
use Rattle.std.specs.Borrow.{Array, Lends, Fml, RattleType, MutBor}
use Rattle.std.specs.declared.default.Default as default
use Rattle.bucket_slots.specs.declared.lru.LruList as list
use Rattle.bucket_slots.specs.BucketView.{BucketView}
use Rattle.bucket_slots.specs.contracts.bucket.Bucket.{the_row}

module _ (K V L TYPE : RattleType) (listing : list.Ghosts L.Denot) (fresh : default.Ghosts L.Denot) where
  -- that bucket has the last value written through the loan
  abbrev pub LendsTarget : MutBor (List (BucketView K.Denot V.Denot)) → ℕ → MutBor (BucketView K.Denot V.Denot) → Fml
  LendsTarget targets index loan =
      Lends (Array (the_row K V L TYPE listing fresh) 0) (the_row K V L TYPE listing fresh) targets loan (slice_set targets.now index)
