-- What is removed from the home of a hash in one of a table's arrays.
use Rattle.std.specs.Prelude.{ℕ, ◌≡◌, ◌%◌, length, Bool, Option, Some, None}
use Rattle.bucket_slots.specs.BucketView.{Place, pairs_in, slot_in}
use Rattle.bucket_slots.specs.Removing.{slots_without}
use Rattle.bucket_slots.specs.Searching.{pair_matched, place_matched}
use Rattle.bucket_slots.specs.Slots.{live_pair}
use Rattle.bucket_table.specs.Map.ByKey.{StandsAt}
use Rattle.bucket_table.specs.Map.LookingUp.{home_bucket}
use Rattle.bucket_table.specs.Resize.Asking.{RemovesAndShrinks}
use Rattle.bucket_table.specs.Views.ArraysView.{ArePlaced, ArraysView}
use Rattle.bucket_table.specs.Views.Keeping.{Keeps}
use Rattle.bucket_table.specs.Views.Sides.{arrays_with, bucket_on, buckets_on}
use Rattle.bucket_table.specs.declared.arrays.side.Side.{Side}

-- the pair of a live slot with a matching key is removed, and if no live pair is left in the bucket, the arrays may shrink, by the number
-- of remaining pairs if that is given
pub record TakesFrom {K V : Type 0} (left : Option ℕ) (matches : K → Bool) (side : Side) (old : ArraysView K V) (pair : K × V)
    (new : ArraysView K V) : Type 0 where
  pub index : ℕ
  pub at : Place
  pub stands : StandsAt matches old side index at
  pub taken : live_pair (slot_in (bucket_on old side index) at) ≡ Some pair
  pub asked : RemovesAndShrinks left old side index (slots_without (bucket_on old side index) at) new
  pub kept : Keeps (arrays_with old side index (slots_without (bucket_on old side index) at)) new
  pub placed : (hash : K → ℕ) → ArePlaced hash (arrays_with old side index (slots_without (bucket_on old side index) at))
      → ArePlaced hash new

-- a matching pair is removed from the home on one side; the result is `None` exactly if that home has none, and nothing changes
abbrev pub TakesOn : {K V : Type 0} → Option ℕ → (K → Bool) → ℕ → Side → ArraysView K V → Option (K × V) → ArraysView K V → Type 0
TakesOn left matches hash side old (Some pair) new = TakesFrom left matches side old pair new
TakesOn left matches hash side old None new =
    (new ≡ old) × (pair_matched matches (hash % 256) (home_bucket hash (buckets_on old side)) ≡ None)

-- the pair of the first matching slot of a bucket of one side is removed, and the given number of live pairs is left there
pub record TakesHomePair {K V : Type 0} (matches : K → Bool) (byte : ℕ) (side : Side) (index : ℕ) (old : ArraysView K V) (pair : K × V)
    (left : ℕ)
    (new : ArraysView K V) : Type 0 where
  pub at : Place
  pub found : place_matched matches byte (bucket_on old side index) ≡ Some at
  pub taken : live_pair (slot_in (bucket_on old side index) at) ≡ Some pair
  pub changed : new ≡ arrays_with old side index (slots_without (bucket_on old side index) at)
  pub left_is : left ≡ length (pairs_in (slots_without (bucket_on old side index) at))

-- the result is `None` exactly if no slot matches, and nothing changes
abbrev pub TakesHome : {K V : Type 0} → (K → Bool) → ℕ → Side → ℕ → ArraysView K V → Option ((K × V) × ℕ) → ArraysView K V → Type 0
TakesHome matches byte side index old (Some found) new = TakesHomePair matches byte side index old found.0 found.1 new
TakesHome matches byte side index old None new = (new ≡ old) × (place_matched matches byte (bucket_on old side index) ≡ None)
