-- What a call does to a cache, by the code that it returns: some answer of the library's call has this code, and the library's clauses hold
-- for that answer.
use Rattle.std.specs.Prelude.{ℕ, ◌≡◌, ◌++◌, Bool, List, Option, Some, None, Result, Ok, Err, drop, is_some, length, option_map}
use Rattle.std.specs.Prelude.{take, unwrap_or}
use Rattle.std.specs.declared.alloc.AllocFailed.{AllocFailed}
use Rattle.bucket_table.specs.Views.ArraysView.{TableView}
use Rattle.bucket_slots.specs.declared.not_inserted.NotInserted.{NotInserted}
use Rattle.collections.specs.CacheUpserts.{UpsertsInOrder, UpsertsOrEvicts}
use Rattle.collections.specs.Changes.{Puts, Removes}
use Rattle.collections.specs.Crowding.{LacksBucket}
use Rattle.collections.specs.Maps.{contains_by, get_by, map_of}
use Rattle.collections.specs.Orders.{IsTouched, LeavesPlace, PutsOrKeeps}
use Rattle.collections.specs.declared.hash_cache.put.Upserted.{Upserted}
use Rattle.collections.specs.declared.hash_cache.put.Upserted.TheVariants.{Added, Evicted, Replaced}
use Rattle.bucket_calls.specs.Codes.{cache_upsert_code, found_code, no_memory, put_code}
use Rattle.bucket_calls.specs.Views.{Text}

module _ {K V : Type 0} where
  -- the pair that was evicted for an inserted one
  abbrev pub gone_of : Result (Option (K × V)) (NotInserted K V) → Option (K × V)
  gone_of (Ok gone) = gone
  gone_of (Err why) = None

  -- the key that was evicted for an upserted one, and the value that was evicted or replaced
  abbrev pub evicted_key : {P : Type 0} → Result (Upserted K V) (AllocFailed P) → Option K
  evicted_key (Ok Added) = None
  evicted_key (Ok (Evicted key value)) = Some key
  evicted_key (Ok (Replaced earlier)) = None
  evicted_key (Err back) = None

  abbrev pub value_before : {P : Type 0} → Result (Upserted K V) (AllocFailed P) → Option V
  value_before (Ok Added) = None
  value_before (Ok (Evicted key value)) = Some value
  value_before (Ok (Replaced earlier)) = Some earlier
  value_before (Err back) = None

-- the bytes of a byte string, if there is one, as many as a buffer has room for, and its length
abbrev pub text_copied : List ℕ → ℕ → Option Text → List ℕ × ℕ
text_copied bytes len None = (bytes, len)
text_copied bytes len (Some text) = (take (length bytes) text.items ++ drop (length text.items) bytes, length text.items)

module _ {K V H : Type 0} (eq : K → K → Bool) (test : K → Bool) where
  -- the pair under a key that passes a test is touched, and its value is output, if it is present
  abbrev pub GetsOne : V → TableView K V H → ℕ → TableView K V H → V → Type 0
  GetsOne before old code new after =
      (code ≡ found_code (get_by test (map_of old))) × IsTouched eq test (contains_by test (map_of old)) old new
      × (after ≡ unwrap_or (get_by test (map_of old)) before)

  -- the removed value is output, if there is one
  abbrev pub TakesOne : V → TableView K V H → ℕ → TableView K V H → V → Type 0
  TakesOne before old code new after =
      (answer : Option (K × V)) × (code ≡ found_code answer) × Removes eq test (map_of old) answer (map_of new)
      × LeavesPlace test (is_some answer) old.arrays new.arrays × (after ≡ unwrap_or (get_by test (map_of old)) before)

module _ {K V H : Type 0} (eq : K → K → Bool) (hash_of : H → K → ℕ) (key : K) (value : V) where
  -- the evicted pair is output, if there is one: its key in some form, and its value
  abbrev pub PutsOne : {Out : Type 0} → (Option K → Out) → V → TableView K V H → ℕ → TableView K V H → Out → V → Type 0
  PutsOne key_out before old code new out after =
      (answer : Result (Option (K × V)) (NotInserted K V)) × (code ≡ put_code answer) × Puts eq key value (map_of old) answer (map_of new)
      × PutsOrKeeps eq (key, value) (hash_of old.hasher key) old answer new.arrays
      × (code ≡ no_memory → LacksBucket hash_of key (map_of old))
      × (out ≡ key_out (option_map (λ pair. pair.0) (gone_of answer)))
      × (after ≡ unwrap_or (option_map (λ pair. pair.1) (gone_of answer)) before)

  -- the same, or the earlier value is output
  abbrev pub UpsertsInto : {Out : Type 0} → (Option K → Out) → V → TableView K V H → ℕ → TableView K V H → Out → V → Type 0
  UpsertsInto key_out before old code new out after =
      (answer : Result (Upserted K V) (AllocFailed (K × V))) × (code ≡ cache_upsert_code answer)
      × UpsertsOrEvicts eq key value (map_of old) answer (map_of new)
      × UpsertsInOrder eq (key, value) (hash_of old.hasher key) old answer new
      × (code ≡ no_memory → LacksBucket hash_of key (map_of old))
      × (out ≡ key_out (evicted_key answer)) × (after ≡ unwrap_or (value_before answer) before)
