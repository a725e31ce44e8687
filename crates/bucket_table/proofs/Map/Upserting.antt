-- A pair inserted into a locked bucket, or its value written there, and what that makes of the table in which the bucket was found.
use Rattle.bucket_table.proofs.Words.{ArraysView, Bool, BucketView, Err, IsEquivalence, IsHome, IsLocked, IsOneMap, IsPermutation-refl}
use Rattle.bucket_table.proofs.Words.{KeepsPairs, MapState, None, Ok, Option, Result, Side, Some, TableView, ℕ, ap, bucket_at, bucket_on}
use Rattle.bucket_table.proofs.Words.{buckets_on, length, pairs_of, refl, true, with_bucket, ◌%◌, ◌∙◌, ◌≡◌}
use Rattle.bucket_table.specs.Map.Finding.{FindsBucket, FindsThen}
use Rattle.bucket_slots.specs.Digested.{UpsertsIn}
use Rattle.bucket_table.specs.Map.ByKey.{Upserts, UpsertsAt}
use Rattle.bucket_table.specs.Map.MapState.{state_of}
use Rattle.bucket_table.specs.declared.hash_table.ResizeRule.{ResizeRule}
use Rattle.bucket_table.proofs.Map.Inserting.{inserted_where_absent}
use Rattle.bucket_table.proofs.Map.KeySteps.{stands_found}
use Rattle.bucket_table.proofs.Map.LockedSteps.{with_own}
use Rattle.bucket_table.proofs.Map.LookUps.{searched_absent, searched_found}
use Rattle.bucket_table.proofs.Map.MapSteps.{Leaves, unchanged, wrote}
use Rattle.bucket_table.proofs.Map.TakeSteps.{absent_before, same_taken}
use Rattle.bucket_table.proofs.Scripts.CallSteps.{then_added, then_changed, then_kept}
use Rattle.bucket_table.proofs.Views.SideChanges.{changeable_locked}

module _ {K V H : Type 0} {eq : K → K → Bool} (laws : IsEquivalence eq) (hash : H → K → ℕ) (kind : ℕ) {hasher : H} {a : ArraysView K V}
    (side : Side) (i : ℕ) (one : IsOneMap eq (hash hasher) a) (locked : IsLocked a side i) where
  pub upserted : (r : Result (Option V) (K × V)) (b : BucketView K V) (keeps : ℕ → Bool) (key : K) (value : V) (h : ℕ)
      → ((own : K) → eq own key ≡ true → hash hasher own ≡ h) → h ≡ hash hasher key → IsHome (length (buckets_on a side)) h i
      → UpsertsIn eq key value (h % 256) kind keeps (bucket_at (buckets_on a side) i) r b
      → Leaves laws hash kind side i one (changeable_locked a side i locked)
      (λ new. Upserts eq key value (state_of kind (record { hasher = hasher; arrays = a })) r new) b
  upserted (Ok None) b keeps key value h alike own home x =
      inserted_where_absent laws hash kind side i one locked (Ok true) b keeps key value h alike own home x.0 x.1 tt
  upserted (Ok (Some earlier)) b keeps key value h alike own home x =
      let found = searched_found (λ k. eq k key) a side _ (h % 256) i x.0 refl x.2 in
      let equal = same_taken (λ own. eq own key) (pairs_of a) _ found.0 (x.1, earlier) found.1 found.2 x.3 in
      rw x.4 (
      let y = wrote laws hash kind side i one (changeable_locked a side i locked) (x.1, earlier) value x.0 x.3 in
      record { one_map = y.one_map; map = (x.1, equal, y.map); within = y.within; locked = y.locked })
  upserted (Err back) b keeps key value h alike own home x =
      let absent = searched_absent (λ k. eq k key) h (hash hasher) alike a side _ i one.placed locked home refl x.1 in
      rw x.2 (unchanged laws hash kind side i one (changeable_locked a side i locked) _
      (x.0, absent, record { pairs = IsPermutation-refl (pairs_of a); others = refl }))

module _ {K V H : Type 0} where
  -- the same, if the map was the same before
  pub then_upserted : (eq : K → K → Bool) (key : K) (value : V) (old between new : MapState K V H) (r : Result (Option V) (K × V))
      → KeepsPairs old between → Upserts eq key value between r new → Upserts eq key value old r new
  then_upserted eq key value old between new (Ok None) keeps x =
      (absent_before (λ own. eq own key) old between keeps x.0, then_added old between new (key, value) keeps x.1)
  then_upserted eq key value old between new (Ok (Some earlier)) keeps x =
      (x.0, x.1, then_changed old between new (x.0, earlier) value keeps x.2)
  then_upserted eq key value old between new (Err back) keeps x =
      (x.0, absent_before (λ own. eq own key) old between keeps x.1, then_kept old between new keeps x.2)

  -- a bucket is found for the hash of a key, and the pair is inserted there or its value written
  pub found_upserted : {rule : ResizeRule} (eq : K → K → Bool) (kind h n : ℕ) (keeps : ℕ → Bool) (key : K) (value : V)
      (old between new : TableView K V H)
      (side : Side) (i : ℕ) (r : Result (Option V) (K × V)) (left : BucketView K V) → h ≡ n → FindsBucket rule kind h old side i between
      → UpsertsIn eq key value (h % 256) kind keeps (bucket_on between.arrays side i) r left → new ≡ with_bucket between side i left
      → FindsThen rule kind n old (λ answer table. UpsertsAt eq kind keeps key value (n % 256) table r answer new)
  found_upserted eq kind h n keeps key value old between new side i (Ok None) left own found x is =
      let put = is ∙ ap (λ (b : BucketView K V). with_bucket between side i b) x.1 in
      rw (← own) (record { answer = Ok (side, i); between = between; found = found; done = put })
  found_upserted eq kind h n keeps key value old between new side i (Ok (Some earlier)) left own found x is =
      let stands = stands_found (λ own. eq own key) between.arrays side _ (bucket_on between.arrays side i) (h % 256) i x.0
      refl refl found.home.within x.2 in
      let wrote = is ∙ ap (λ (b : BucketView K V). with_bucket between side i b) x.4 in
      rw (← own) (record { answer = Ok (side, i); between = between; found = found; done = (side, i, x.0, stands, wrote) })
  found_upserted eq kind h n keeps key value old between new side i (Err back) left own found x is =
      let same : new ≡ between = is ∙ with_own between.hasher between.arrays side i left x.2 in
      rw (← own) (record { answer = Ok (side, i); between = between; found = found; done = (x.3, same) })
