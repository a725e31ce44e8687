-- What the buckets of an array are after a loan of one of them for writing.
use Rattle.std.specs.Prelude.{ℕ, List, slice_set}
use Rattle.std.specs.Borrow.{Lends, Fml, RattleType, MutBor}
use Rattle.std.specs.declared.default.Default as default
use Rattle.bucket_slots.specs.declared.lru.LruList as list
use Rattle.bucket_slots.specs.BucketView.{BucketView}
use Rattle.bucket_slots.specs.contracts.bucket.Bucket.{the_row as bucket_row}
use Rattle.bucket_slots.specs.contracts.bucket_array.buckets.Buckets.{the_row}

module _ (K V L TYPE : RattleType) (listing : list.Ghosts L.Denot) (fresh : default.Ghosts L.Denot)
    (buckets : MutBor (List (BucketView K.Denot V.Denot))) where
  -- that bucket has the last value written through the loan, and no other bucket changes
  abbrev pub LendsBucketAt : ℕ → MutBor (BucketView K.Denot V.Denot) → Fml
  LendsBucketAt index loan =
      Lends (the_row K V L TYPE listing fresh) (bucket_row K V L TYPE listing fresh) buckets loan (slice_set buckets.now index)
