-- What writing values does to a cache's buckets, and to their LRU order.
use Rattle.std.specs.Prelude.{ℕ, ◌≡◌, Bool, MatchBool}
use Rattle.bucket_slots.specs.BucketView.{Place, slot_in, with_slot}
use Rattle.bucket_slots.specs.Evicting.{slots_touched}
use Rattle.bucket_slots.specs.Slots.{slot_with_value}
use Rattle.bucket_table.specs.Map.ByKey.{StandsAt}
use Rattle.bucket_table.specs.Views.ArraysView.{ArraysView, TableView}
use Rattle.bucket_table.specs.Views.Sides.{arrays_with, bucket_on}
use Rattle.bucket_table.specs.declared.arrays.side.Side.{Side}
use Rattle.collections.specs.Changes.{Stays}
use Rattle.collections.specs.Maps.{map_of}
use Rattle.collections.specs.Orders.{MovesOn}

-- pairs of the old array, if there is one, may move; then the value of the matching key, if it is present, is another one in the same
-- place, and the pair is touched there if the call touches; nothing else changes
pub record IsWritten {K V H : Type 0} (touches : Bool) (matches : K → Bool) (eq : K → K
    → Bool) (is_there : Bool) (old new : TableView K V H)
    : Type 0 where
  pub between : ArraysView K V
  pub map : Stays eq (map_of old) (map_of (record old { arrays = between }))
  pub carried : MovesOn old.arrays between
  pub written : MatchBool is_there ((value : V) × (side : Side) × (index : ℕ) × (at : Place) × StandsAt matches between side index at
      × (new.arrays ≡ arrays_with between side index (with_slot (slots_touched touches (bucket_on between side index) at) at
      (slot_with_value (slot_in (bucket_on between side index) at) value)))) (new.arrays ≡ between)
