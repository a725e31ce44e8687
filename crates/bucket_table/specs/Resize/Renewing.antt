-- A cache's pairs put into a new array in turn, those of each bucket by age.
use Rattle.std.specs.Prelude.{ℕ, ◌≡◌, ◌*◌, ◌%◌, ◌<◌, ◌++◌, Bool, true, List, [], ◌∷◌, Option, length, map, reverse, slice_set}
use Rattle.std.specs.List.{IsDistinct}
use Rattle.std.specs.List.Sorted.{IsPermutation}
use Rattle.bucket_slots.specs.ArrayView.{IsNewArray, bucket_at}
use Rattle.bucket_slots.specs.BucketView.{BucketView, flattened}
use Rattle.bucket_slots.specs.ByUse.{slots_by_use}
use Rattle.bucket_slots.specs.Homes.{IsHome}
use Rattle.bucket_slots.specs.Slots.{live_pairs, slot_at}
use Rattle.bucket_table.specs.Map.Putting.{Goes, slots_left, slots_put}
use Rattle.bucket_table.specs.Rehash.State.{first_tickets}
use Rattle.bucket_table.specs.Views.ArraysView.{ArraysView, TableView, pairs_of}

-- the live pairs of a bucket's chain, which aren't listed
abbrev pub chain_pairs : {K V : Type 0} → BucketView K V → List (K × V)
chain_pairs bucket = live_pairs (flattened bucket.chain)

-- the live pairs of some of its own slots, from the last one to the first
abbrev pub own_backwards : {K V : Type 0} → BucketView K V → List ℕ → List (K × V)
own_backwards bucket slots = live_pairs (reverse (map (slot_at bucket.own) slots))

-- those of all its own slots, the one touched last at the end
abbrev pub own_by_age : {K V : Type 0} → BucketView K V → List (K × V)
own_by_age bucket = own_backwards bucket (slots_by_use (length bucket.own) bucket.listed)

-- the live pairs of a bucket by age: those of the chain, then those of the own slots
abbrev pub pairs_by_age : {K V : Type 0} → BucketView K V → List (K × V)
pairs_by_age bucket = chain_pairs bucket ++ own_by_age bucket

-- the live pairs of buckets, bucket by bucket, those of each by age
abbrev pub all_by_age : {K V : Type 0} → List (BucketView K V) → List (K × V)
all_by_age [] = []
all_by_age (bucket ∷ buckets) = pairs_by_age bucket ++ all_by_age buckets

-- the live pairs of arrays, the current one's first
abbrev pub arrays_by_age : {K V : Type 0} → ArraysView K V → List (K × V)
arrays_by_age arrays = all_by_age arrays.current ++ all_by_age arrays.linked

-- a pair is put into its home, after an eviction for it
abbrev pub PutsHome : {K V : Type 0} → (K → ℕ) → List (BucketView K V) → K × V → List (BucketView K V) → Type 0
PutsHome {K} {V} hash old pair new =
    (index : ℕ) × (gone : Option (K × V)) × IsHome (length old) (hash pair.0) index × Goes (bucket_at old index) gone
    × (new ≡ slice_set old index (slots_put true (slots_left (bucket_at old index) gone) pair (hash pair.0 % 256)))

-- the same for each of some pairs, in turn
abbrev pub PutsEach : {K V : Type 0} → (K → ℕ) → List (BucketView K V) → List (K × V) → List (BucketView K V) → Type 0
PutsEach hash old [] new = new ≡ old
PutsEach {K} {V} hash old (pair ∷ pairs) new =
    (between : List (BucketView K V)) × PutsHome hash old pair between × PutsEach hash between pairs new

-- a table can take pairs: there is only one array, at the maximum capacity, and no key occurs twice among these pairs and its own
pub record Awaits {K V H : Type 0} (eq : K → K → Bool) (table : TableView K V H) (pairs : List (K × V)) : Type 0 where
  pub stands : 0 < length table.arrays.current
  pub alone : length table.arrays.linked ≡ 0
  pub full : 32 * length table.arrays.current ≡ table.arrays.maximum
  pub distinct : IsDistinct eq (map (λ pair. pair.0) (pairs ++ pairs_of table.arrays))

-- some pairs are put into the current array in turn, nothing else changes, and those that were evicted for others are dropped
pub record Pours {K V H : Type 0} (hash : H → K → ℕ) (old : TableView K V H) (pairs : List (K × V)) (new : TableView K V H) : Type 0 where
  pub each : PutsEach (hash old.hasher) old.arrays.current pairs new.arrays.current
  pub others : new ≡ record old { arrays = record old.arrays { current = new.arrays.current } }
  pub gone : List (K × V)
  pub parts : IsPermutation (pairs ++ pairs_of old.arrays) (gone ++ pairs_of new.arrays)

-- a new array for a capacity, which is both the minimum and the maximum, is the only one, and each pair was put into it by age; those that
-- were evicted for others are dropped
pub record Renews {K V : Type 0} (hash : K → ℕ) (capacity : ℕ) (old new : ArraysView K V) : Type 0 where
  pub fresh : List (BucketView K V)
  pub fresh_is : IsNewArray capacity fresh
  pub put : PutsEach hash fresh (arrays_by_age old) new.current
  pub others : new ≡ record { minimum = capacity; maximum = capacity; current = new.current; linked = []; tickets = first_tickets 0 }
  pub gone : List (K × V)
  pub parts : IsPermutation (pairs_of old) (gone ++ pairs_of new)
