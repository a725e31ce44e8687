-- When an insertion may fail to allocate.
use Rattle.std.specs.Prelude.{ℕ, ◌+◌, ◌/◌, ◌<◌, ◌≤◌, ◌≡◌, ◌⊎◌, List, length, slice_index_or}
use Rattle.bucket_slots.specs.ArrayView.{bucket_at}
use Rattle.bucket_slots.specs.BucketLaws.{IsBucketOf}
use Rattle.bucket_slots.specs.BucketView.{BucketView, pairs_in}
use Rattle.bucket_slots.specs.Homes.{IsHome}
use Rattle.bucket_slots.specs.Sizing.{IsLength}
use Rattle.bucket_table.specs.Rehash.Relocation.{home_of, homed_len}
use Rattle.bucket_table.specs.Views.ArraysView.{TableView}
use Rattle.bucket_table.specs.Views.Sides.{buckets_on}
use Rattle.bucket_table.specs.declared.arrays.side.Side.{Side}
use Rattle.collections.specs.Maps.{MapView, map_of}

-- in an array of some slots, 32 to a bucket, the bucket of a key is the home of at least a number of some pairs
abbrev pub HasAtHome : {K V : Type 0} → ℕ → (K → ℕ) → K → ℕ → List (K × V) → Type 0
HasAtHome count hash key slots pairs = (0 < slots) × (count ≤ homed_len hash (slots / 32) (home_of (slots / 32) (hash key)) pairs)

-- among the old slots, the bucket of a key has at least a number of pairs
abbrev pub HasInOld : {K V H : Type 0} → ℕ → (K → ℕ) → K → MapView K V H → Type 0
HasInOld count hash key map = (0 < map.old_slots)
    × (count ≤ slice_index_or map.bucket_lens (map.slots / 32 + home_of (map.old_slots / 32) (hash key)) 0)

-- finding a bucket for a key may fail to allocate: the map has no slots, or moves to fewer slots than it had, or the key's old bucket has
-- more pairs than own slots
abbrev pub LacksBucket : {K V H : Type 0} → (H → K → ℕ) → K → MapView K V H → Type 0
LacksBucket hash_of key map = ((map.slots ≡ 0) ⊎ (map.slots < map.old_slots)) ⊎ HasInOld 33 (hash_of map.hasher) key map

-- so may inserting a key, or its bucket is the home of as many pairs as it has slots; a caller that needs this definition unfolds it, since
-- an automatic search would otherwise go through all of it
unfoldable pub LacksRoom : {K V H : Type 0} → (H → K → ℕ) → K → MapView K V H → Type 0
LacksRoom hash_of key map = LacksBucket hash_of key map ⊎ HasAtHome 32 (hash_of map.hasher) key map.slots map.entries

-- in an array, the bucket of a hash has at least 32 pairs
pub record IsFull {K V : Type 0} (hash : ℕ) (buckets : List (BucketView K V)) : Type 0 where
  pub index : ℕ
  pub home : IsHome (length buckets) hash index
  pub many : 32 ≤ length (pairs_in (bucket_at buckets index))

-- inserting a key into an index may fail to allocate: finding a bucket may, or the bucket found is full, in an array as long as the current
-- one was; a caller that needs this definition unfolds it
unfoldable pub LacksSlots : {K V H : Type 0} → (H → K → ℕ) → K → TableView K V H → TableView K V H → Type 0
LacksSlots hash_of key old new = LacksBucket hash_of key (map_of old)
    ⊎ ((side : Side) × (length (buckets_on new.arrays side) ≡ length old.arrays.current)
    × IsFull (hash_of old.hasher key) (buckets_on new.arrays side))

-- what stays true of the home of a hash, a bucket of an array. No public clause cites it
pub record KeepsHome {K V : Type 0} (kind hash : ℕ) (buckets : List (BucketView K V)) : Type 0 where
  pub index : ℕ
  pub home : IsHome (length buckets) hash index
  pub long : IsLength (length buckets)
  pub laws : IsBucketOf kind (bucket_at buckets index)
