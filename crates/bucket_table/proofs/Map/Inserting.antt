-- A pair inserted into a locked bucket if its key is absent, and what that makes of the table in which the bucket was found.
use Rattle.bucket_table.proofs.Words.{ArraysView, Bool, BucketView, Err, IsEquivalence, IsHome, IsLocked, IsOneMap, IsPermutation-refl, List}
use Rattle.bucket_table.proofs.Words.{KeepsPairs, MapState, Ok, OnErr, OnOk, Result, Side, TableView, ℕ, bucket_at, bucket_on, buckets_on}
use Rattle.bucket_table.proofs.Words.{empty_bucket, length, pairs_of, refl, set, set-get_or, slots_after_insertion, sym, true}
use Rattle.bucket_table.proofs.Words.{with_bucket, ◌%◌, ◌∙◌, ◌≡◌}
use Rattle.bucket_table.specs.Map.Finding.{FindsBucket, FindsThen}
use Rattle.bucket_table.specs.declared.hash_table.ResizeRule.{ResizeRule}
use Rattle.bucket_slots.specs.declared.not_inserted.NotInserted.{NotInserted}
use Rattle.bucket_slots.specs.declared.not_inserted.NotInserted.TheVariants.{Memory, Present}
use Rattle.bucket_slots.specs.Digested.{AnswersInsertion}
use Rattle.bucket_table.specs.Map.ByKey.{Inserts, InsertsAt, InsertsIn, ReturnsPair}
use Rattle.bucket_table.specs.Map.MapState.{state_of}
use Rattle.bucket_table.specs.Map.Refusing.{IsRefused}
use Rattle.bucket_table.proofs.Map.LookUps.{searched_absent, searched_found}
use Rattle.bucket_table.proofs.Map.MapSteps.{Leaves, inserted, unchanged}
use Rattle.bucket_table.proofs.Map.TakeSteps.{absent_before}
use Rattle.bucket_table.proofs.Scripts.CallSteps.{then_added, then_kept, there_before}
use Rattle.bucket_table.proofs.Views.SideChanges.{changeable_locked}

module _ {K V H : Type 0} {eq : K → K → Bool} (laws : IsEquivalence eq) (hash : H → K → ℕ) (kind : ℕ) {hasher : H} {a : ArraysView K V}
    (side : Side) (i : ℕ) (one : IsOneMap eq (hash hasher) a) (locked : IsLocked a side i) where
  pub inserted_where_absent : {A : Type 0} (r : Result A (NotInserted K V)) (b : BucketView K V) (keeps : ℕ → Bool) (key : K) (value : V)
      (h : ℕ) → ((own : K) → eq own key ≡ true → hash hasher own ≡ h) → h ≡ hash hasher key → IsHome (length (buckets_on a side)) h i
      → AnswersInsertion eq key value (h % 256) kind keeps (bucket_at (buckets_on a side) i) r
      → OnOk r (b ≡ slots_after_insertion kind keeps (bucket_at (buckets_on a side) i) (key, value) (h % 256))
      → OnErr r (b ≡ bucket_at (buckets_on a side) i)
      → Leaves laws hash kind side i one (changeable_locked a side i locked)
      (λ new. Inserts eq key value (state_of kind (record { hasher = hasher; arrays = a })) r new) b
  inserted_where_absent (Ok done) b keeps key value h alike own home answer put same =
      let absent = searched_absent (λ k. eq k key) h (hash hasher) alike a side _ i one.placed locked home refl answer in
      rw put (
      let x = inserted laws hash kind side i one (changeable_locked a side i locked) keeps (key, value) h own home absent in
      record { one_map = x.one_map; map = (absent, x.map); within = x.within; locked = x.locked })
  inserted_where_absent (Err (Present k v)) b keeps key value h alike own home answer put same =
      let found = searched_found (λ k. eq k key) a side _ (h % 256) i answer.2.0 refl answer.2.1 in
      rw same (unchanged laws hash kind side i one (changeable_locked a side i locked) _
      ((answer.0, answer.1, (found.0, found.2)), record { pairs = IsPermutation-refl (pairs_of a); others = refl }))
  inserted_where_absent (Err (Memory k v)) b keeps key value h alike own home answer put same =
      let absent = searched_absent (λ k. eq k key) h (hash hasher) alike a side _ i one.placed locked home refl answer.2 in
      rw same (unchanged laws hash kind side i one (changeable_locked a side i locked) _
      ((answer.0, answer.1, absent), record { pairs = IsPermutation-refl (pairs_of a); others = refl }))

-- a bucket of an array into which a pair was inserted
pub inserted_in : {K V : Type 0} (eq : K → K → Bool) (key : K) (value : V) (byte kind : ℕ) (keeps : ℕ → Bool)
    (old new : List (BucketView K V)) (index : ℕ) (r : Result (Unit {0}) (NotInserted K V))
    → AnswersInsertion eq key value byte kind keeps (bucket_at old index) r
    → OnOk r (new ≡ set old index (slots_after_insertion kind keeps (bucket_at old index) (key, value) byte))
    → OnErr r (new ≡ old)
    → InsertsIn eq key value byte kind keeps (bucket_at old index) r (λ left. new ≡ set old index left)
inserted_in eq key value byte kind keeps old new index (Ok done) answer put same = (_, answer, refl, _, put)
inserted_in eq key value byte kind keeps old new index (Err why) answer put same =
    (bucket_at old index, answer, _, refl, same ∙ sym (set-get_or old index empty_bucket))

module _ {K V H : Type 0} where
  -- the same for a pair that is returned, if the map was the same before
  pub handed_back : (eq : K → K → Bool) (key : K) (value : V) (old between : MapState K V H) (why : NotInserted K V)
      → KeepsPairs old between → ReturnsPair eq key value between.pairs why → ReturnsPair eq key value old.pairs why
  handed_back eq key value old between (Present k v) keeps (same, handed, (pair, there)) =
      (same, handed, (pair, there_before (λ own. eq own key) old between pair keeps there))
  handed_back eq key value old between (Memory k v) keeps x = (x.0, x.1, absent_before (λ own. eq own key) old between keeps x.2)

  -- and nothing else changes if no bucket is found for it
  pub unfound : (eq : K → K → Bool) (key : K) (value : V) (old new : MapState K V H) (why : NotInserted K V) → KeepsPairs old new
      → ReturnsPair eq key value new.pairs why → ReturnsPair eq key value old.pairs why × KeepsPairs old new
  unfound eq key value old new why keeps x = (handed_back eq key value old new why keeps x, keeps)

module _ {K V H A : Type 0} where
  -- the same for an insertion, if the map was the same before
  pub then_inserted : (eq : K → K → Bool) (key : K) (value : V) (old between new : MapState K V H) (r : Result A (NotInserted K V))
      → KeepsPairs old between → Inserts eq key value between r new → Inserts eq key value old r new
  then_inserted eq key value old between new (Ok done) keeps x =
      (absent_before (λ own. eq own key) old between keeps x.0, then_added old between new (key, value) keeps x.1)
  then_inserted eq key value old between new (Err why) keeps x =
      (handed_back eq key value old between why keeps x.0, then_kept old between new keeps x.1)

  -- a bucket is found for the hash of a key, and changed if a pair was inserted
  pub found_then : {rule : ResizeRule} (eq : K → K → Bool) (kind h n : ℕ) (keeps : ℕ → Bool) (key : K) (value : V)
      (old between new : TableView K V H)
      (side : Side) (i : ℕ) (r : Result A (NotInserted K V)) → h ≡ n → FindsBucket rule kind h old side i between
      → AnswersInsertion eq key value (h % 256) kind keeps (bucket_on between.arrays side i) r
      → OnOk r (new ≡ with_bucket between side i
      (slots_after_insertion kind keeps (bucket_on between.arrays side i) (key, value) (h % 256)))
      → OnErr r (new ≡ between)
      → FindsThen rule kind n old (λ answer table. InsertsAt kind keeps (key, value) (n % 256) table r answer new)
  found_then eq kind h n keeps key value old between new side i (Ok done) own found answer put same =
      rw (← own) (record { answer = Ok (side, i); between = between; found = found; done = put })
  found_then eq kind h n keeps key value old between new side i (Err (Present k v)) own found answer put same =
      rw (← own) (record { answer = Ok (side, i); between = between; found = found; done = same })
  found_then eq kind h n keeps key value old between new side i (Err (Memory k v)) own found answer put same =
      rw (← own) (record { answer = Ok (side, i); between = between; found = found; done = (answer.3, same) })

module _ {K V H : Type 0} where
  -- and if none is found
  pub refused_then : {rule : ResizeRule} (kind n : ℕ) (keeps : ℕ → Bool) (pair : K × V) (old new : TableView K V H) (why : NotInserted K V)
      → IsRefused kind n old new
      → FindsThen rule kind n old (λ answer table. InsertsAt {A = ℕ} kind keeps pair (n % 256) table (Err why) answer new)
  refused_then kind n keeps pair old new (Present k v) refused =
      record { answer = Err tt; between = new; found = refused; done = refl }
  refused_then kind n keeps pair old new (Memory k v) refused =
      record { answer = Err tt; between = new; found = refused; done = refl }
