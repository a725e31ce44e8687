-- Why filling a map for which room was made fails.
use Rattle.std.specs.Prelude.{ℕ}
use Rattle.bucket_slots.specs.Sizing.{IsTooFull}
use Rattle.collections.specs.Crowding.{HasAtHome}
use Rattle.collections.specs.Maps.{MapView}
use Rattle.example_callers.specs.declared.filling.NotFilled.{NotFilled}
use Rattle.example_callers.specs.declared.filling.NotFilled.TheVariants.{Crowded, NoRoom, Twice}

-- although the slots have room for that many pairs, the bucket of some key is the home of 31 of the map's pairs
pub record HasCrowdedBucket {K V H : Type 0} (hash : K → ℕ) (pairs : ℕ) (map : MapView K V H) : Type 0 where
  pub slots : ℕ
  pub enough : IsTooFull slots pairs → ⊥
  pub key : K
  pub crowded : HasAtHome 31 hash key slots map.entries

-- allocation fails for an insertion only if a bucket is crowded
abbrev pub IsForCause : {K V H : Type 0} → (K → ℕ) → ℕ → MapView K V H → NotFilled → Type 0
IsForCause hash pairs map NoRoom = Unit {0}
IsForCause hash pairs map Twice = Unit {0}
IsForCause hash pairs map Crowded = HasCrowdedBucket hash pairs map
