-- The hasher, the capacities and the bag stay, one call after another.
use Rattle.bucket_table.proofs.Words.{ArraysView, Bool, KeepsOpenTickets, KeepsPairs, MapState, TableView, ℕ, ap, refl, ◌∙◌, ◌≡◌}
use Rattle.bucket_table.specs.Views.Settings.{KeepsSettings}
use Rattle.bucket_table.specs.Walking.Sweeps.{RetainsAt}
use Rattle.bucket_table.specs.Map.MapState.{state_of}
use Rattle.bucket_table.proofs.Map.MapKept.{hasher_kept}
use Rattle.bucket_table.proofs.Views.Keeping.{bag_both, bag_same}
use Rattle.std.specs.Prelude.{count_by, ◌==◌}

module _ {K V H : Type 0} where
  pub settings_same : (table : TableView K V H) → KeepsSettings table table
  settings_same table = record { hasher = refl; minimum = refl; maximum = refl; bag = bag_same table.arrays.tickets }

  pub settings_both : (first second third : TableView K V H) → KeepsSettings first second → KeepsSettings second third
      → KeepsSettings first third
  settings_both first second third a b = record {
    hasher = b.hasher ∙ a.hasher;
    minimum = b.minimum ∙ a.minimum;
    maximum = b.maximum ∙ a.maximum;
    bag = bag_both first.arrays.tickets second.arrays.tickets third.arrays.tickets a.bag b.bag;
  }

  -- a call that keeps the map and the bag
  pub settings_kept : (kind : ℕ) (old new : TableView K V H) → KeepsPairs (state_of kind old) (state_of kind new)
      → KeepsOpenTickets old.arrays.tickets new.arrays.tickets → KeepsSettings old new
  settings_kept kind old new kept bag = record {
    hasher = hasher_kept _ _ kept;
    minimum = ap (λ (m : MapState K V H). m.minimum) kept.others;
    maximum = ap (λ (m : MapState K V H). m.maximum) kept.others;
    bag = bag;
  }

  -- a bucket that was swept
  pub settings_swept : {kind epoch : ℕ} (IsTest : (K × V → Bool) → Type 0) (now visited : TableView K V H) (index taken : ℕ)
      → visited.hasher ≡ now.hasher → RetainsAt IsTest kind epoch now.arrays index taken visited.arrays → KeepsSettings now visited
  settings_swept IsTest now visited index taken same r = record {
    hasher = same;
    minimum = ap (λ (a : ArraysView K V). a.minimum) r.new_is;
    maximum = ap (λ (a : ArraysView K V). a.maximum) r.new_is;
    bag = λ unit. ap (λ (a : ArraysView K V). count_by (λ other. other == unit) a.tickets.open_units) r.new_is;
  }
