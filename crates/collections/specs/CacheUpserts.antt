-- What calls do to a cache that insert a pair if its key is absent, and do something else if it is present.
use Rattle.std.specs.Prelude.{ℕ, ◌≡◌, ◌⊎◌, Bool, true, Option, Some, None, Result, Ok, Err}
use Rattle.std.specs.Borrow.{Bor}
use Rattle.std.specs.declared.alloc.AllocFailed.{AllocFailed}
use Rattle.bucket_table.specs.Views.ArraysView.{TableView}
use Rattle.bucket_slots.specs.declared.not_inserted.NotInserted.{NotInserted}
use Rattle.bucket_slots.specs.declared.not_inserted.NotInserted.TheVariants.{Memory, Present}
use Rattle.collections.specs.CacheWrites.{IsWritten}
use Rattle.collections.specs.Changes.{Adds, Displaces, Puts, Replaces, Stays}
use Rattle.collections.specs.Crowding.{LacksBucket}
use Rattle.collections.specs.Maps.{MapView, get, map_of}
use Rattle.collections.specs.Orders.{IsTouched, LeavesArray, PutsInHome}
use Rattle.collections.specs.declared.hash_cache.put.Upserted.{Upserted}
use Rattle.collections.specs.declared.hash_cache.put.Upserted.TheVariants.{Added, Evicted, Replaced}

module _ {K V H : Type 0} (eq : K → K → Bool) where
  -- a pair is inserted, and the result is the evicted pair, if any; or its value replaces that of the present key, and the result is the
  -- earlier value; on allocation failure the pair is returned, its key is absent, and nothing changes
  abbrev pub UpsertsOrEvicts : K → V → MapView K V H → Result (Upserted K V) (AllocFailed (K × V)) → MapView K V H → Type 0
  UpsertsOrEvicts key value old (Ok Added) new = Adds eq old key value new
  UpsertsOrEvicts key value old (Ok (Evicted k v)) new = Displaces eq old (k, v) key value new
  UpsertsOrEvicts key value old (Ok (Replaced earlier)) new = (own : K) × Replaces eq old (eq key) (own, earlier) value new
  UpsertsOrEvicts key value old (Err back) new = (back.value ≡ (key, value)) × (get eq old key ≡ None) × Stays eq old new

  -- a pair is put into its home as the most recently used one, after an eviction if there is one; or the present pair is touched and
  -- written; if the pair is returned, nothing else happens
  abbrev pub UpsertsInOrder : K × V → ℕ → TableView K V H → Result (Upserted K V) (AllocFailed (K × V)) → TableView K V H → Type 0
  UpsertsInOrder pair hash old (Ok Added) new = PutsInHome eq pair hash None old new.arrays
  UpsertsInOrder pair hash old (Ok (Evicted k v)) new = PutsInHome eq pair hash (Some (k, v)) old new.arrays
  UpsertsInOrder pair hash old (Ok (Replaced earlier)) new = IsWritten true (eq pair.0) eq true old new
  UpsertsInOrder pair hash old (Err back) new = LeavesArray old.arrays new.arrays

  -- a pair whose key is absent is put into its home, after an eviction if there is one; or it is returned on allocation failure, and
  -- nothing changes. No public clause cites it
  abbrev pub PutsVacant : (H → K → ℕ) → K → V → ℕ → TableView K V H → Result (Option (K × V)) (NotInserted K V) → TableView K V H → Type 0
  PutsVacant hash_of key value hash old (Ok gone) new =
      Puts eq key value (map_of old) (Ok gone) (map_of new) × PutsInHome eq (key, value) hash gone old new.arrays
  PutsVacant hash_of key value hash old (Err (Memory k v)) new = (k ≡ key) × (v ≡ value) × (get eq (map_of old) key ≡ None)
      × Stays eq (map_of old) (map_of new) × LeavesArray old.arrays new.arrays × LacksBucket hash_of key (map_of old)
  PutsVacant hash_of key value hash old (Err (Present k v)) new = ⊥

  -- the pair under the key is touched, and its value is read; or a value is made, read and inserted, after an eviction if there is one; on
  -- allocation failure the key and the value made are returned, and nothing changes
  abbrev pub GetsOrInserts : {R : Type 0} → K → ℕ → (V → Type 0) → (Bor V → R → Type 0) → TableView K V H
      → Result (R × Option (K × V)) (AllocFailed (K × V)) → TableView K V H → Type 0
  GetsOrInserts key hash makes reads old (Ok done) new = (value : Bor V) × reads value done.0
      × (((get eq (map_of old) key ≡ Some value.now) × (done.1 ≡ None) × IsTouched eq (eq key) true old new)
      ⊎ (makes value.now × Puts eq key value.now (map_of old) (Ok done.1) (map_of new)
      × PutsInHome eq (key, value.now) hash done.1 old new.arrays))
  GetsOrInserts key hash makes reads old (Err back) new = (back.value.0 ≡ key) × makes back.value.1 × (get eq (map_of old) key ≡ None)
      × Stays eq (map_of old) (map_of new) × LeavesArray old.arrays new.arrays
