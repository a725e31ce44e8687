-- What a call keeps besides the pairs.
use Rattle.std.specs.Prelude.{◌≡◌}
use Rattle.bucket_table.specs.Views.ArraysView.{TableView}
use Rattle.bucket_table.specs.Views.Keeping.{KeepsOpenTickets}

-- the hasher, the two capacities and the bag of open tickets stay
pub record KeepsSettings {K V H : Type 0} (old new : TableView K V H) : Type 0 where
  pub hasher : new.hasher ≡ old.hasher
  pub minimum : new.arrays.minimum ≡ old.arrays.minimum
  pub maximum : new.arrays.maximum ≡ old.arrays.maximum
  pub bag : KeepsOpenTickets old.arrays.tickets new.arrays.tickets
