-- What `new` opens a handle on.
use Rattle.std.specs.Prelude.{ℕ, ◌≡◌, ◌^◌, max, min}
use Rattle.bucket_slots.specs.Sizing.{IsLeastPowerOfTwo}
use Rattle.collections.specs.Capacity.{IsMinimumFor}
use Rattle.collections.specs.Maps.{IsEmpty, map_of}
use Rattle.bucket_calls.specs.Hashing.{initial_hasher}
use Rattle.bucket_calls.specs.Views.{Caches, Maps}
use Rattle.bucket_calls.specs.declared.seed.Seed.{Seed}

-- an empty map that hashes with the seed, and has room for `capacity` pairs from its first insertion on
pub record IsNew {K V : Type 0} (capacity : ℕ) (seed : Seed) (map : Maps K V) : Type 0 where
  pub empty : IsEmpty map
  pub seeded : map.hasher.builder.initial ≡ initial_hasher seed
  pub minimum : IsMinimumFor capacity map.minimum
  pub maximum : map.maximum ≡ 2 ^ 63

-- an empty cache that hashes with the seed, of at least `minimum` and at most `maximum` slots, adjusted as by `HashCache::with_capacity`
pub record IsNewCache {K : Type 0} (minimum maximum : ℕ) (seed : Seed) (cache : Caches K) : Type 0 where
  pub empty : IsEmpty (map_of cache)
  pub seeded : cache.hasher.builder.initial ≡ initial_hasher seed
  pub least : cache.arrays.minimum ≡ min minimum (2 ^ 63)
  pub greatest : IsLeastPowerOfTwo (min (max (max maximum minimum) 64) (2 ^ 63)) cache.arrays.maximum
