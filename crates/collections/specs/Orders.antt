-- What calls do to the LRU order in a cache's buckets.
use Rattle.std.specs.Prelude.{ℕ, ◌≡◌, ◌<◌, ◌%◌, ◌⊎◌, ◌++◌, Bool, true, false, MatchBool, List, [], Option, Result, Ok, Err}
use Rattle.std.specs.Prelude.{flat_map, length, map, slice_set}
use Rattle.std.specs.Cmp.{IsEquivalence}
use Rattle.std.specs.List.{All, Contains, IsDistinct, filter, list_any}
use Rattle.std.specs.List.Sorted.{IsPermutation}
use Rattle.bucket_table.specs.declared.arrays.side.Side.{Side}
use Rattle.bucket_table.specs.declared.arrays.side.Side.TheVariants.{Current}
use Rattle.bucket_slots.specs.ArrayView.{bucket_at}
use Rattle.bucket_slots.specs.BucketView.{BucketView, Place, listed_pairs, pairs_in, slot_in}
use Rattle.bucket_slots.specs.Evicting.{slots_touched}
use Rattle.bucket_slots.specs.Homes.{IsHome}
use Rattle.bucket_slots.specs.Removing.{slots_without}
use Rattle.bucket_slots.specs.Slots.{is_free, live_pairs}
use Rattle.bucket_table.specs.Map.ByKey.{StandsAt}
use Rattle.bucket_table.specs.Map.Putting.{Goes, slots_left, slots_put}
use Rattle.bucket_table.specs.Rehash.Carrying.{WentInOrder, chained_pairs}
use Rattle.bucket_table.specs.Resize.Overfull.{SplitsHome}
use Rattle.bucket_table.specs.Resize.Resizing.{IsMade}
use Rattle.bucket_table.specs.Views.ArraysView.{ArraysView, TableView, pairs_of}
use Rattle.bucket_table.specs.Views.Sides.{arrays_with, bucket_on}
use Rattle.bucket_slots.specs.declared.not_inserted.NotInserted.{NotInserted}
use Rattle.collections.specs.Changes.{Stays}
use Rattle.collections.specs.Maps.{map_of}

-- pairs of the old array, if there is one, have moved, bucket after bucket, with their LRU order: no pair is lost, none of the current
-- array leaves its slot, and each bucket lists what it listed, and then the listed pairs that moved to its own slots, in their order; the
-- pairs of a bucket moved in the order of its slots, so that the first of them are in own slots
pub record MovesOn {K V : Type 0} (old new : ArraysView K V) : Type 0 where
  pub alone : length old.linked ≡ 0 → new ≡ old
  pub pairs : IsPermutation (pairs_of old) (pairs_of new)
  pub slots : length new.current ≡ length old.current
  pub moved : List ℕ
  pub left : (i : ℕ) → (Contains moved i × (listed_pairs (bucket_at new.linked i) ≡ []))
      ⊎ ((listed_pairs (bucket_at new.linked i) ≡ listed_pairs (bucket_at old.linked i))
      × (pairs_in (bucket_at new.linked i) ≡ pairs_in (bucket_at old.linked i))
      × (chained_pairs (bucket_at new.linked i) ≡ chained_pairs (bucket_at old.linked i)))
  pub stay : (j : ℕ) (at : Place) → is_free (slot_in (bucket_at old.current j) at) ≡ false
      → slot_in (bucket_at new.current j) at ≡ slot_in (bucket_at old.current j) at
  pub came : List (K × V)
  pub came_is : came ≡ flat_map (λ i. listed_pairs (bucket_at old.linked i)) moved
  pub arrived : All (λ pair. (j : ℕ) × Contains (pairs_in (bucket_at new.current j)) pair) came
  pub carried : (eq : K → K → Bool) → IsEquivalence eq → IsDistinct eq (map (λ pair. pair.0) (pairs_of old)) → (j : ℕ)
      → listed_pairs (bucket_at new.current j) ≡ listed_pairs (bucket_at old.current j)
      ++ filter (λ pair. list_any (λ own. eq pair.0 own.0) (live_pairs (bucket_at new.current j).own)) came
  pub in_order : (i : ℕ) → Contains moved i → WentInOrder new.current (pairs_in (bucket_at old.linked i))

-- the map stays; pairs of the old array, if there is one, may move; then the pair whose key matches, if it is present, is touched in its
-- place, and nothing else changes
pub record IsTouched {K V H : Type 0} (eq : K → K → Bool) (matches : K → Bool) (is_there : Bool) (old new : TableView K V H) : Type 0 where
  pub map : Stays eq (map_of old) (map_of new)
  pub between : ArraysView K V
  pub carried : MovesOn old.arrays between
  pub touched : MatchBool is_there ((side : Side) × (index : ℕ) × (at : Place) × StandsAt matches between side index at
      × (new.arrays ≡ arrays_with between side index (slots_touched true (bucket_on between side index) at))) (new.arrays ≡ between)

-- one bucket has changed and nothing else, or its array, which was the only one, is now the old one
abbrev pub ReplacesBucket : {K V : Type 0} → Side → ℕ → BucketView K V → ArraysView K V → ArraysView K V → Type 0
ReplacesBucket side index bucket old new = (new ≡ arrays_with old side index bucket)
    ⊎ ((length old.linked ≡ 0) × (new.linked ≡ slice_set old.current index bucket))

-- the slots were doubled for a home with as many pairs as own slots: the array is now the old one, and pairs of it have moved
pub record IsSplit {K V : Type 0} (hash : ℕ) (old new : ArraysView K V) : Type 0 where
  pub doubled : ArraysView K V
  pub splits : SplitsHome hash old doubled
  pub carried : MovesOn doubled new

-- the map stays; pairs of the old array, if there is one, may move, and the first array is made if there is none; then the slots may be
-- doubled for the home of a key's hash; then a pair is put into that home as the most recently used one, after an eviction if there is one
pub record PutsInHome {K V H : Type 0} (eq : K → K → Bool) (pair : K × V) (hash : ℕ) (gone : Option (K × V)) (old : TableView K V H)
    (new : ArraysView K V) : Type 0 where
  pub ready : ArraysView K V
  pub carried : 0 < length old.arrays.linked → MovesOn old.arrays ready
  pub first : length old.arrays.linked ≡ 0 → (0 < length old.arrays.current → ready ≡ old.arrays)
      × (length old.arrays.current ≡ 0 → IsMade old.arrays ready)
  pub between : ArraysView K V
  pub split : (between ≡ ready) ⊎ IsSplit hash ready between
  pub map : Stays eq (map_of old) (map_of (record old { arrays = between }))
  pub index : ℕ
  pub home : IsHome (length between.current) hash index
  pub goes : Goes (bucket_at between.current index) gone
  pub put : ReplacesBucket Current index (slots_put true (slots_left (bucket_at between.current index) gone) pair (hash % 256)) between new

-- pairs of the old array may move, and a single array stays; then that may become the old one
pub record LeavesArray {K V : Type 0} (old new : ArraysView K V) : Type 0 where
  pub between : ArraysView K V
  pub carried : 0 < length old.linked → MovesOn old between
  pub alone : length old.linked ≡ 0 → 0 < length old.current → between ≡ old
  pub left : (new ≡ between) ⊎ ((length between.linked ≡ 0) × (new.linked ≡ between.current))

-- a pair is put into its home, or it is returned
abbrev pub PutsOrKeeps : {K V H : Type 0} → (K → K → Bool) → K × V → ℕ → TableView K V H → Result (Option (K × V)) (NotInserted K V)
    → ArraysView K V → Type 0
PutsOrKeeps eq pair hash old (Ok gone) new = PutsInHome eq pair hash gone old new
PutsOrKeeps eq pair hash old (Err why) new = LeavesArray old.arrays new

-- the pair whose key matches leaves its place, if it is present, and nothing else of its array changes; or no array is left, if the minimum
-- is 0
abbrev pub Leaves : {K V : Type 0} → (K → Bool) → Bool → ArraysView K V → ArraysView K V → Type 0
Leaves matches true old new = ((new.minimum ≡ 0) × (new.current ++ new.linked ≡ []))
    ⊎ ((side : Side) × (index : ℕ) × (at : Place) × StandsAt matches old side index at
    × ReplacesBucket side index (slots_without (bucket_on old side index) at) old new)
Leaves matches false old new = new ≡ old

-- pairs of the old array, if there is one, may move; then the pair leaves its place
pub record LeavesPlace {K V : Type 0} (matches : K → Bool) (is_there : Bool) (old new : ArraysView K V) : Type 0 where
  pub between : ArraysView K V
  pub carried : MovesOn old between
  pub left : Leaves matches is_there between new
