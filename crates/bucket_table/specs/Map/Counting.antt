-- A count of pairs, and what counting does to a table's arrays.
use Rattle.std.specs.Prelude.{ℕ, ◌+◌, ◌-◌, ◌*◌, ◌^◌, ◌≡◌, ◌<◌, ◌≤◌, Bool, IsTrue, List, [], Option, Some, None, Result}
use Rattle.std.specs.Prelude.{Ok, Err, flat_map, length, min}
use Rattle.bucket_slots.specs.BucketView.{BucketView, flattened}
use Rattle.bucket_slots.specs.Slots.{live_pairs}
use Rattle.bucket_table.specs.Views.ArraysView.{ArraysView, IsOneMap, entries_of, pairs_of}
use Rattle.bucket_table.specs.Resize.Asking.{ResizesIf}
use Rattle.bucket_table.specs.Views.Keeping.{KeepsArrays}
use Rattle.bucket_table.specs.declared.hash_table.ResizeRule.{ResizeRule}
use Rattle.bucket_table.specs.declared.hash_table.ResizeRule.TheVariants.{Counted, Sampled}

-- the length of a list, at most 2^64 - 1
abbrev pub counted_to : {A : Type 0} → List A → ℕ
counted_to xs = min (length xs) (2 ^ 64 - 1)

-- the number of pairs that a removal leaves, if the rule of a resize depends on it
abbrev pub pairs_left : {K V : Type 0} → ResizeRule → ArraysView K V → Option ℕ
pairs_left Sampled arrays = None
pairs_left Counted arrays = Some (counted_to (pairs_of arrays) - 1)

-- a number is the number of remaining elements, if they are counted
abbrev pub IsRest : {A : Type 0} → Bool → ℕ → List A → Type 0
IsRest counted rest left = IsTrue counted → rest ≡ length left

-- a number is at least the number of remaining elements, if they are counted
abbrev pub IsMost : {A : Type 0} → Bool → ℕ → List A → Type 0
IsMost counted most left = IsTrue counted → length left ≤ most

-- a number is one less than another, if that isn't 0
abbrev pub IsOneLess : ℕ → ℕ → Type 0
IsOneLess rest less = 0 < rest → less ≡ rest - 1

-- the arrays are one map, and the number is that of its pairs
pub record IsCountedMap {K V : Type 0} (eq : K → K → Bool) (hash : K → ℕ) (arrays : ArraysView K V) (count : ℕ) : Type 0 where
  pub one_map : IsOneMap eq hash arrays
  pub counted : count ≡ counted_to (pairs_of arrays)

-- a number is the count of a list, if `before` was the count before `gone` elements were removed and `added` ones inserted
abbrev pub CountsAfter : {A : Type 0} → ℕ → ℕ → ℕ → List A → ℕ → Type 0
CountsAfter count gone added now result =
    (before : ℕ) → count ≡ min before (2 ^ 64 - 1) → before + added ≡ length now + gone → result ≡ counted_to now

-- how many more pairs there are after a put: one if the pair was inserted and none evicted for it, else none
abbrev pub put_count : {A E : Type 0} → Result (Option A) E → ℕ
put_count (Ok None) = 1
put_count (Ok (Some earlier)) = 0
put_count (Err refused) = 0

-- the live pairs that are in the chains of some buckets, bucket after bucket
abbrev pub chained_among : {K V : Type 0} → List (BucketView K V) → List (K × V)
chained_among buckets = flat_map (λ bucket. live_pairs (flattened bucket.chain)) buckets

-- each bucket has 32 own slots, so there are at most as many entries as own slots and pairs in the chains
abbrev pub IsHeldBy : {A K V : Type 0} → List A → List (BucketView K V) → Type 0
IsHeldBy entries buckets = length entries ≤ 32 * length buckets + length (chained_among buckets)

-- a unit was worked, if there was an old array; then a resize is due if there is no pair and the minimum is 0
pub record CountsAndResizes {K V : Type 0} (old new : ArraysView K V) : Type 0 where
  pub between : ArraysView K V
  pub kept : KeepsArrays old between
  pub alone : length old.linked ≡ 0 → between ≡ old
  pub resized : ResizesIf ((entries_of between ≡ []) × (between.minimum ≡ 0)) between new
