-- What a script's visitors do with a bucket that they are lent.
use Rattle.std.specs.Prelude.{ℕ, ◌+◌, ◌-◌, ◌^◌, ◌≡◌, ◌||◌, Bool, true, [], length, min, nat_lt}
use Rattle.bucket_slots.specs.BucketView.{BucketView, marks_in, pairs_in}
use Rattle.bucket_slots.specs.Marking.{MarksBy}
use Rattle.bucket_table.specs.Walking.Retains.{IsLeftOf}

-- the sum of two counts, at most 2^64 - 1
abbrev pub sum_to : ℕ → ℕ → ℕ
sum_to count more = min (count + more) (2 ^ 64 - 1)

-- the bucket and its live pairs are counted, and the walk continues
pub record Tallies {K V : Type 0} (buckets pairs : ℕ) (lent : BucketView K V) (more : Bool) (buckets_then pairs_then : ℕ) : Type 0 where
  pub goes_on : more ≡ true
  pub buckets_are : buckets_then ≡ sum_to buckets 1
  pub pairs_are : pairs_then ≡ sum_to pairs (length (pairs_in lent))

-- the bucket's live pairs are removed, or become tombstones with an epoch, each at its place, and are counted; the flag is set if there
-- was one, and the walk continues
pub record Empties {K V : Type 0} (kind epoch count : ℕ) (lent : BucketView K V) (flag more : Bool)
    (left : BucketView K V) (last : Bool) (count_then : ℕ) : Type 0 where
  pub goes_on : more ≡ true
  pub none_left : pairs_in left ≡ []
  pub alive : left.killed ≡ lent.killed
  pub slots : IsLeftOf kind epoch lent left
  pub marks : MarksBy epoch (marks_in lent) (marks_in left)
  pub count_is : count_then ≡ sum_to count (length (pairs_in lent))
  pub flag_is : last ≡ (flag || nat_lt 0 (length (pairs_in lent)))
