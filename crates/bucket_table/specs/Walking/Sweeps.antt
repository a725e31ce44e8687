-- What a sweep does to the arrays, bucket after bucket.
use Rattle.std.specs.Prelude.{ℕ, ◌≡◌, Bool, List, Result, Ok}
use Rattle.bucket_slots.specs.BucketView.{BucketView, marks_in}
use Rattle.bucket_slots.specs.Marking.{MarksBy}
use Rattle.bucket_table.specs.Views.ArraysView.{ArraysView}
use Rattle.bucket_table.specs.Walking.Cursors.{ShrinksThenPasses, Passes}
use Rattle.bucket_table.specs.Walking.Retains.{IsLeftOf, Retains}
use Rattle.bucket_table.specs.Scripts.Runs.{Run}
use Rattle.bucket_table.specs.Views.Sides.{arrays_with, bucket_on}
use Rattle.bucket_table.specs.declared.arrays.Missing.{Missing}
use Rattle.bucket_table.specs.declared.arrays.side.Side.TheVariants.{Current}

-- a current bucket is left with what is kept, each pair at its place, its tombstones with their epochs, and new ones with this epoch;
-- nothing else changes
pub record RetainsAt {K V : Type 0} (IsTest : (K × V → Bool) → Type 0) (kind epoch : ℕ) (old : ArraysView K V) (index : ℕ)
    (count : ℕ) (new : ArraysView K V) : Type 0 where
  pub left : BucketView K V
  pub retains : Retains IsTest (bucket_on old Current index) left count
  pub slots : IsLeftOf kind epoch (bucket_on old Current index) left
  pub marks : MarksBy epoch (marks_in (bucket_on old Current index)) (marks_in left)
  pub new_is : new ≡ arrays_with old Current index left

-- the state of a sweep: the bucket that its cursor has found, or why there is none, and the arrays
pub record SweepState (K V : Type 0) : Type 0 where
  pub place : Result ℕ Missing
  pub arrays : ArraysView K V

-- the bucket that was found is left with what is kept, and then the cursor leaves it
pub record SweepsAt {K V : Type 0} (IsTest : (K × V → Bool) → Type 0) (kind epoch : ℕ) (old : SweepState K V) (index : ℕ)
    (place : Result ℕ Missing) (new : SweepState K V) : Type 0 where
  pub here : old.place ≡ Ok index
  pub next : new.place ≡ place
  pub visited : ArraysView K V
  pub count : ℕ
  pub retained : RetainsAt IsTest kind epoch old.arrays index count visited
  pub departs : ShrinksThenPasses (λ to. to) Current index visited place new.arrays

-- a cursor starts, and moves from one bucket that is swept to the next
pub record Sweeps {K V : Type 0} (IsTest : (K × V → Bool) → Type 0) (kind epoch : ℕ) (old : ArraysView K V)
    (last : SweepState K V) : Type 0 where
  pub first : SweepState K V
  pub sets_out : Passes (λ index. index) 0 old first.place first.arrays
  pub indices : List ℕ
  pub places : List (Result ℕ Missing)
  pub run : Run (SweepsAt IsTest kind epoch) first indices places last
