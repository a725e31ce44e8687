-- A table after no bucket was found for a writer.
use Rattle.std.specs.Prelude.{ℕ, ◌<◌, length, ◌≡◌}
use Rattle.bucket_table.specs.Views.ArraysView.{TableView}
use Rattle.bucket_table.specs.Map.Preparing.{HomeNeedsMemory, IsPrepared}

-- no bucket was found for a writer of a hash: the table is prepared; without an old array there was no current one; with one, allocation
-- failed for a source of the hash's home
pub record IsRefused {K V H : Type 0} (kind hash : ℕ) (old after : TableView K V H) : Type 0 where
  pub prepared : IsPrepared kind hash old after
  pub alone : length old.arrays.linked ≡ 0 → length old.arrays.current ≡ 0
  pub home : 0 < length after.arrays.current → HomeNeedsMemory hash old.arrays after.arrays
