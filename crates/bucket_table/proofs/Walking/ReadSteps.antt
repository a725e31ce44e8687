-- A bucket that is read is like one that is returned unchanged.
use Rattle.bucket_table.proofs.Words.{ArraysView, Bool, BucketView, Current, IsLocked, IsPermutation-refl, TableView, [], bucket_on, length}
use Rattle.bucket_table.proofs.Words.{reading, refl, subst, sym, ℕ, ◌<◌, ◌≡◌}
use Rattle.bucket_table.specs.Walking.Walks.{IsKeptBy, KeepsBuckets, keys_in}
use Rattle.bucket_table.proofs.Views.SideChanges.{arrays_with-same}
use Rattle.bucket_table.proofs.Walking.Visiting.{IsLentAt}

module _ {S K V : Type 0} (reads : S → BucketView K V → Bool → S → Type 0) where
  -- a reader keeps all keys
  pub keeps_read : KeepsBuckets (reading reads)
  keeps_read now next lent left flag more last alive call = subst (λ (b : BucketView K V). IsKeptBy lent b) (sym call.1)
      (record { gone = []; keys = IsPermutation-refl (keys_in lent); alive = alive })

  -- it is lent a bucket, and the arrays stay
  pub read_at : {arrays : ArraysView K V} (index : ℕ) {now next : S} {flag more : Bool}
      {seen : BucketView K V} → seen ≡ bucket_on arrays Current index → reads now seen more next
      → IsLentAt S (reading reads) arrays index now flag more flag next arrays
  read_at {arrays = arrays} index {now = now} {next = next} {more = more} is call = (
    bucket_on arrays Current index,
    (
      subst (λ (b : BucketView K V). reads now b more next) is call,
      refl,
      refl,
    ),
    sym (arrays_with-same arrays Current index),
  )

module _ {K V H : Type 0} where
  -- the table, seen as its parts
  pub within_seen : {table seen : TableView K V H} {index : ℕ} → table ≡ seen → IsLocked seen.arrays Current index
      → index < length table.arrays.current
  within_seen {index = index} is locked = subst (λ (view : TableView K V H). index < length view.arrays.current) (sym is) locked.within

  pub bucket_seen : {table seen : TableView K V H} (index : ℕ) {bucket : BucketView K V} → table ≡ seen
      → bucket ≡ bucket_on table.arrays Current index → bucket ≡ bucket_on seen.arrays Current index
  bucket_seen index {bucket = bucket} is same =
      subst (λ (view : TableView K V H). bucket ≡ bucket_on view.arrays Current index) is same
