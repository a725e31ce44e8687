-- What a call of a locked bucket returns and leaves, given what its bucket's own call does.
use Rattle.bucket_table.proofs.Words.{Bool, BucketView, Err, IfErr, IfOk, Ok, OnErr, OnOk, Place, Result, Side, TableView, ℕ, bucket_on}
use Rattle.bucket_table.proofs.Words.{if◌then◌else◌, live, refl, slot_in, subst, with_bucket, ◌∙◌, ◌≡◌}
use Rattle.bucket_slots.specs.Placing.{IsRefused, place_for_next}
use Rattle.std.proofs.Common.{is_ok}
use Rattle.bucket_slots.specs.Clearing.{slots_for_insertion}
use Rattle.bucket_table.specs.Views.LockedChanges.{AnswersPlacing, Changes, bucket_in}
use Rattle.bucket_table.specs.declared.hash_table.locked_bucket.LockedBucket.{LockedBucket}
use Rattle.bucket_table.proofs.Views.SideChanges.{arrays_with-same}
use Rattle.std.specs.declared.cmp.PartialEq as equals
use Rattle.std.specs.declared.default.Default as default
use Rattle.bucket_slots.specs.declared.lru.LruList as list
use Rattle.bucket_table.specs.declared.key_hash.KeyHash as key_hash

module _ {K V : Type 0} where
  -- what an insertion returns: t is its bucket, and u that of the table
  pub answers_placing : (kind : ℕ) (keeps : ℕ → Bool) (s t u : BucketView K V) (pair : K × V) (byte : ℕ) (r : Result Place (K × V)) → u ≡ t
      → IfOk r (λ at. at ≡ place_for_next (slots_for_insertion kind keeps s)) → IfOk r (λ at. slot_in t at ≡ live pair byte)
      → IfErr r (λ back. back ≡ pair) → OnErr r (IsRefused s t (slots_for_insertion kind keeps s))
      → AnswersPlacing kind keeps pair byte s r u
  answers_placing kind keeps s t u pair byte (Ok at) same place names back refused = (place, rw same names)
  answers_placing kind keeps s t u pair byte (Err e) same place names back refused = (back, refused.no_free_slot)

module _ {K V H : Type 0} where
  -- what it leaves: t is the table inside, and s the table in the contract
  pub put_or_same : {A E : Type 0} (r : Result A E) (t s : TableView K V H) (side : Side) (i : ℕ) (b : BucketView K V)
      (f : BucketView K V → BucketView K V) → t ≡ s → OnOk r (b ≡ f (bucket_on t.arrays side i)) → OnErr r (b ≡ bucket_on t.arrays side i)
      → with_bucket t side i b ≡ with_bucket s side i (if is_ok r then f (bucket_on s.arrays side i) else bucket_on s.arrays side i)
  put_or_same (Ok x) t s side i b f is put same = rw (← is, put) refl
  put_or_same (Err e) t s side i b f is put same = rw (← is, same) refl

module _ {K V H L : Type 0} {TYPE : ℕ} {equal : equals.Ghosts K} {hashing : key_hash.Ghosts H K} {listing : list.Ghosts L}
    {fresh : default.Ghosts L} (old new : LockedBucket K V H L TYPE equal hashing listing fresh) where
  -- a bucket that stays is a table that stays
  pub table_same : (change : BucketView K V → BucketView K V) → Changes old new change → change (bucket_in old) ≡ bucket_in old
      → new.table.now ≡ old.table.now
  table_same change c same = c.table
      ∙ rw same (subst (λ a. with_bucket old.table.now old.side old.index (bucket_in old) ≡ record old.table.now { arrays = a })
      (arrays_with-same old.table.now.arrays old.side old.index) refl)
