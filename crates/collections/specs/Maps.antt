-- What contracts see of a collection, in terms of std's `HashMap`.
use Rattle.std.specs.Prelude.{ℕ, ◌≡◌, ◌*◌, ◌++◌, Bool, List, [], drop, length, map, slice_index_or, take, Option, is_some}
use Rattle.std.specs.List.{IsDistinct, sum}
use Rattle.std.specs.Map.{keys_of, lookup, set_value}
use Rattle.bucket_slots.specs.BucketView.{pairs_in}
use Rattle.bucket_table.specs.Views.ArraysView.{TableView, pairs_of}

-- the pairs, in an order that any call may change, the hasher, the least number of slots that a shrink leaves and the greatest that a
-- growth makes, the number of slots, the number of old slots, whose pairs have yet to move to these, and the number of pairs in each
-- bucket, in the order of the pairs: first the buckets of these slots, then those of the old ones
pub record MapView (K V H : Type 0) : Type 0 where
  pub entries : List (K × V)
  pub hasher : H
  pub minimum : ℕ
  pub maximum : ℕ
  pub slots : ℕ
  pub old_slots : ℕ
  pub bucket_lens : List ℕ

-- the map that a table is
abbrev pub map_of : {K V H : Type 0} → TableView K V H → MapView K V H
map_of table = record {
  entries = pairs_of table.arrays;
  hasher = table.hasher;
  minimum = table.arrays.minimum;
  maximum = table.arrays.maximum;
  slots = 32 * length table.arrays.current;
  old_slots = 32 * length table.arrays.linked;
  bucket_lens = map (λ bucket. length (pairs_in bucket)) (table.arrays.current ++ table.arrays.linked);
}

module _ {K V H : Type 0} where
  -- the number of pairs
  abbrev pub map_len : MapView K V H → ℕ
  map_len m = length m.entries

  -- how many pairs come before those of a bucket
  abbrev pub pairs_before : MapView K V H → ℕ → ℕ
  pairs_before m index = sum (take index m.bucket_lens)

  -- the pairs of a bucket; none past the last bucket
  abbrev pub pairs_in_bucket : MapView K V H → ℕ → List (K × V)
  pairs_in_bucket m index = take (slice_index_or m.bucket_lens index 0) (drop (pairs_before m index) m.entries)

  abbrev pub IsEmpty : MapView K V H → Type 0
  IsEmpty m = m.entries ≡ []

  -- the value at the first key that passes a test
  abbrev pub get_by : (K → Bool) → MapView K V H → Option V
  get_by test m = lookup test m.entries

  -- the map with another value at the first key that passes a test
  abbrev pub map_with_value : (K → Bool) → MapView K V H → V → MapView K V H
  map_with_value test m value = record m { entries = set_value test m.entries value }

  -- whether a key passes a test
  abbrev pub contains_by : (K → Bool) → MapView K V H → Bool
  contains_by test m = is_some (get_by test m)

  module _ (eq : K → K → Bool) where
    -- no two keys are equal
    abbrev pub IsUnique : MapView K V H → Type 0
    IsUnique m = IsDistinct eq (keys_of m.entries)

    -- the map as a function: the value of a key
    abbrev pub get : MapView K V H → K → Option V
    get m key = lookup (eq key) m.entries

    -- whether it contains a key
    abbrev pub contains : MapView K V H → K → Bool
    contains m key = is_some (get m key)
