-- What a call does that takes handles of several kinds.
use Rattle.std.specs.Prelude.{ℕ, ◌≡◌, Option, Some, None, nat_eq}
use Rattle.bucket_slots.specs.declared.bucket.TheConstants.{CACHE}
use Rattle.collections.specs.Maps.{map_of}
use Rattle.collections.specs.Retaining.{LeavesBuckets}
use Rattle.collections.specs.Slots.{cleared}
use Rattle.bucket_calls.specs.Codes.{closed, ok, other_kind}
use Rattle.bucket_calls.specs.Sizing.{MakesRoomBy, ShrinksBy}
use Rattle.bucket_calls.specs.Views.{Caches, Maps, Text, text_eq}
use Rattle.bucket_c.specs.declared.tables.Table.{Table}
use Rattle.bucket_c.specs.declared.tables.Table.TheVariants.{Map, TextMap, Set, TextSet, Store, Cache, TextCache}

-- a cache loses its pairs; its hasher, its capacities and its slots stay
pub record IsCleared {K : Type 0} (old new : Caches K) : Type 0 where
  pub map : map_of new ≡ cleared (map_of old)
  pub buckets : LeavesBuckets CACHE old.arrays new.arrays

-- no pair is left, and the slots stay
abbrev pub Clears : Option Table → ℕ → Option Table → Type 0
Clears None code new = (code ≡ closed) × (new ≡ None)
Clears (Some (Map map)) code new = (code ≡ ok) × (new ≡ Some (Map (cleared map)))
Clears (Some (TextMap map)) code new = (code ≡ ok) × (new ≡ Some (TextMap (cleared map)))
Clears (Some (Set set)) code new = (code ≡ ok) × (new ≡ Some (Set (cleared set)))
Clears (Some (TextSet set)) code new = (code ≡ ok) × (new ≡ Some (TextSet (cleared set)))
Clears (Some (Store map)) code new = (code ≡ ok) × (new ≡ Some (Store (cleared map)))
Clears (Some (Cache old)) code new = (code ≡ ok) × ((cache : Caches ℕ) × (new ≡ Some (Cache cache)) × IsCleared old cache)
Clears (Some (TextCache old)) code new = (code ≡ ok) × ((cache : Caches Text) × (new ≡ Some (TextCache cache)) × IsCleared old cache)

-- room for so many more pairs; a cache has the capacity that it was made with
abbrev pub ReservesMore : ℕ → Option Table → ℕ → Option Table → Type 0
ReservesMore additional None code new = (code ≡ closed) × (new ≡ None)
ReservesMore additional (Some (Map old)) code new =
    (map : Maps ℕ ℕ) × (new ≡ Some (Map map)) × MakesRoomBy nat_eq additional old code map
ReservesMore additional (Some (TextMap old)) code new =
    (map : Maps Text ℕ) × (new ≡ Some (TextMap map)) × MakesRoomBy text_eq additional old code map
ReservesMore additional (Some (Set old)) code new =
    (set : Maps ℕ (Unit {0})) × (new ≡ Some (Set set)) × MakesRoomBy nat_eq additional old code set
ReservesMore additional (Some (TextSet old)) code new =
    (set : Maps Text (Unit {0})) × (new ≡ Some (TextSet set)) × MakesRoomBy text_eq additional old code set
ReservesMore additional (Some (Store old)) code new =
    (map : Maps Text Text) × (new ≡ Some (Store map)) × MakesRoomBy text_eq additional old code map
ReservesMore additional (Some table) code new = (code ≡ other_kind) × (new ≡ Some table)

-- the minimum number of slots is 0 from now on, and as few slots are left as the pairs need
abbrev pub Shrinks : Option Table → ℕ → Option Table → Type 0
Shrinks None code new = (code ≡ closed) × (new ≡ None)
Shrinks (Some (Map old)) code new = (map : Maps ℕ ℕ) × (new ≡ Some (Map map)) × ShrinksBy nat_eq old code map
Shrinks (Some (TextMap old)) code new = (map : Maps Text ℕ) × (new ≡ Some (TextMap map)) × ShrinksBy text_eq old code map
Shrinks (Some (Set old)) code new = (set : Maps ℕ (Unit {0})) × (new ≡ Some (Set set)) × ShrinksBy nat_eq old code set
Shrinks (Some (TextSet old)) code new = (set : Maps Text (Unit {0})) × (new ≡ Some (TextSet set)) × ShrinksBy text_eq old code set
Shrinks (Some (Store old)) code new = (map : Maps Text Text) × (new ≡ Some (Store map)) × ShrinksBy text_eq old code map
Shrinks (Some table) code new = (code ≡ other_kind) × (new ≡ Some table)
