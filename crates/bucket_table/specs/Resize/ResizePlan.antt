-- What a resize does, which depends on the number of live slots of each bucket.
use Rattle.std.specs.Prelude.{ℕ, ◌*◌, ◌/◌, ◌-◌, ◌<◌, ◌≤◌, ◌≡◌, ◌⊎◌, List, length}
use Rattle.std.specs.List.{All}
use Rattle.bucket_slots.specs.Sampling.{IsLargeSample, full_sample}
use Rattle.bucket_slots.specs.Sizing.{IsOptimalCapacity, IsTooEmpty, IsTooFull}
use Rattle.bucket_table.specs.Resize.Sampling.{estimate}
use Rattle.bucket_table.specs.declared.arrays.resize.Plan.{Plan}
use Rattle.bucket_table.specs.declared.arrays.resize.Plan.TheVariants.{Keep, GiveUp, Resize}

-- the number of own slots of all buckets
abbrev pub slots_of : List ℕ → ℕ
slots_of counts = 32 * length counts

-- the estimates from as many buckets as are in the large sample: from the last ones, and from the first ones
abbrev pub last_estimate : List ℕ → ℕ → ℕ
last_estimate counts large = estimate counts (length counts - large) large

abbrev pub first_estimate : List ℕ → ℕ → ℕ
first_estimate counts large = estimate counts 0 large

-- the estimate from the full sample, in the middle
abbrev pub middle_estimate : List ℕ → ℕ
middle_estimate counts = estimate counts ((length counts - full_sample (length counts)) / 2) (full_sample (length counts))

-- what is done if the middle estimate asks for a capacity: a growth is done, and a shrinking is done unless the first buckets ask for a
-- greater capacity
pub record IsPlanTo (slots capacity : ℕ) (IsAskedAtFirst : ℕ → Type 0) (plan : Plan) : Type 0 where
  pub unchanged : capacity ≡ slots → plan ≡ Keep
  pub greater : slots < capacity → plan ≡ Resize capacity
  pub less : capacity < slots → (asked : ℕ) × IsAskedAtFirst asked × (capacity < asked → plan ≡ Keep)
      × (asked ≤ capacity → plan ≡ Resize capacity)

-- the plan for an array with these numbers of live slots in its buckets, by the last estimate: a table that may be without an array drops
-- it if all its buckets are empty; a table that is neither too full nor too empty keeps it; any other follows the middle estimate
pub record IsPlan (counts : List ℕ) (minimum maximum : ℕ) (plan : Plan) : Type 0 where
  pub large : ℕ
  pub large_is : IsLargeSample (length counts) large
  pub emptied : last_estimate counts large ≡ 0 → minimum ≡ 0 → All (λ count. count ≡ 0) counts → plan ≡ GiveUp
  pub not_emptied : last_estimate counts large ≡ 0 → minimum ≡ 0 → (All (λ count. count ≡ 0) counts → ⊥) → plan ≡ Keep
  pub settled : (last_estimate counts large ≡ 0 → minimum ≡ 0 → ⊥) → (IsTooFull (slots_of counts) (last_estimate counts large) → ⊥)
      → (IsTooEmpty (slots_of counts) (last_estimate counts large) → ⊥) → plan ≡ Keep
  pub unsettled : (last_estimate counts large ≡ 0 → minimum ≡ 0 → ⊥)
      → IsTooFull (slots_of counts) (last_estimate counts large) ⊎ IsTooEmpty (slots_of counts) (last_estimate counts large)
      → (capacity : ℕ) × IsOptimalCapacity (slots_of counts) (middle_estimate counts) minimum maximum capacity
      × IsPlanTo (slots_of counts) capacity (IsOptimalCapacity (slots_of counts) (first_estimate counts large) minimum maximum) plan

-- the capacity that a plan asks for is at most the maximum
abbrev pub IsCapacityWithin : ℕ → Plan → Type 0
IsCapacityWithin maximum (Resize capacity) = capacity ≤ maximum
IsCapacityWithin maximum plan = Unit {0}
