-- Pairs that spread from a row, seen as the own slots of a bucket.
use Rattle.std.specs.Prelude.{ℕ, Bool, List}
use Rattle.std.specs.Borrow.{Bor}
use Rattle.bucket_slots.specs.BucketLaws.{IsBucketOf}
use Rattle.bucket_slots.specs.BucketView.{BucketView}
use Rattle.bucket_slots.specs.Slots.{Slot}
use Rattle.bucket_slots.specs.Spreading.{SpreadsSome}

module _ {K V : Type 0} (kind : ℕ) (answers : Bor K → ℕ → Type 0) (names : ℕ → ℕ → Type 0) (start : ℕ) where
  -- whatever the chain, and whether it is killed or not, some pairs of the bucket move, and what holds of every bucket holds of it
  abbrev pub SpreadsOwn : List (Slot K V) → List ℕ → List (BucketView K V) → List (Slot K V) → List ℕ → List (BucketView K V) → Type 0
  SpreadsOwn own listed buckets own_after listed_after after =
      (chain : List (List (Slot K V))) (killed : Bool)
      → IsBucketOf kind (record { own = own; chain = chain; listed = listed; killed = killed })
      → SpreadsSome kind answers names start (record { own = own; chain = chain; listed = listed; killed = killed }) buckets
      (record { own = own_after; chain = chain; listed = listed_after; killed = killed }) after
      × IsBucketOf kind (record { own = own_after; chain = chain; listed = listed_after; killed = killed })
