-- What a resize leaves of a cache.
use Rattle.std.specs.Prelude.{ℕ, ◌≡◌, ◌^◌, ◌⊎◌, Bool, None, max, min}
use Rattle.bucket_slots.specs.Sizing.{IsLeastPowerOfTwo}
use Rattle.bucket_table.specs.Resize.Renewing.{Renews}
use Rattle.bucket_table.specs.Views.ArraysView.{TableView}
use Rattle.collections.specs.Maps.{IsUnique, get, map_of}

-- the pairs were inserted, one after another, into a new array of the size for a number of slots; each key has the value that it had, or is
-- evicted
pub record ResizesTo {K V H : Type 0} (eq : K → K → Bool) (hash : K → ℕ) (slots : ℕ) (old new : TableView K V H) : Type 0 where
  pub size : ℕ
  pub size_is : IsLeastPowerOfTwo (min (max slots 64) (2 ^ 63)) size
  pub renewed : Renews hash size old.arrays new.arrays
  pub unique : IsUnique eq (map_of new)
  pub gets : (key : K) → (get eq (map_of new) key ≡ get eq (map_of old) key) ⊎ (get eq (map_of new) key ≡ None)
