-- The codes that calls return, and which answer of the library has which code.
use Rattle.std.specs.Prelude.{ℕ, Option, Some, None, Result, Ok, Err}
use Rattle.std.specs.declared.alloc.AllocFailed.{AllocFailed}
use Rattle.bucket_slots.specs.declared.not_inserted.NotInserted.{NotInserted}
use Rattle.bucket_slots.specs.declared.not_inserted.NotInserted.TheVariants.{Present, Memory}
use Rattle.collections.specs.declared.hash_cache.put.Upserted.{Upserted}
use Rattle.collections.specs.declared.hash_cache.put.Upserted.TheVariants.{Added, Evicted, Replaced}

abbrev pub ok : ℕ
ok = 0

abbrev pub absent : ℕ
absent = 1

abbrev pub present : ℕ
present = 2

abbrev pub no_memory : ℕ
no_memory = 3

abbrev pub closed : ℕ
closed = 4

abbrev pub opened : ℕ
opened = 5

abbrev pub other_kind : ℕ
other_kind = 6

abbrev pub evicted : ℕ
evicted = 7

abbrev pub too_long : ℕ
too_long = 8

-- for a look-up and a removal
abbrev pub found_code : {A : Type 0} → Option A → ℕ
found_code (Some answer) = ok
found_code None = absent

-- for an insertion
abbrev pub insert_code : {A K V : Type 0} → Result A (NotInserted K V) → ℕ
insert_code (Ok done) = ok
insert_code (Err (Present key value)) = present
insert_code (Err (Memory key value)) = no_memory

-- for a map's upsert
abbrev pub upsert_code : {V P : Type 0} → Result (Option V) (AllocFailed P) → ℕ
upsert_code (Ok None) = ok
upsert_code (Ok (Some earlier)) = present
upsert_code (Err back) = no_memory

-- for a cache's `put`
abbrev pub put_code : {P K V : Type 0} → Result (Option P) (NotInserted K V) → ℕ
put_code (Ok None) = ok
put_code (Ok (Some gone)) = evicted
put_code (Err (Present key value)) = present
put_code (Err (Memory key value)) = no_memory

-- for a cache's upsert
abbrev pub cache_upsert_code : {K V P : Type 0} → Result (Upserted K V) (AllocFailed P) → ℕ
cache_upsert_code (Ok Added) = ok
cache_upsert_code (Ok (Evicted key value)) = evicted
cache_upsert_code (Ok (Replaced earlier)) = present
cache_upsert_code (Err back) = no_memory

-- for a call that makes room, or frees slots
abbrev pub room_code : {A E : Type 0} → Result A E → ℕ
room_code (Ok done) = ok
room_code (Err refused) = no_memory
