-- What the home of a hash is if no key of that hash matches.
use Rattle.std.specs.Prelude.{ℕ, ◌≡◌, ◌<◌, length}
use Rattle.bucket_table.specs.Map.Preparing.{HomeNeedsMemory, IsReady}
use Rattle.bucket_table.specs.Views.ArraysView.{ArraysView}
use Rattle.bucket_table.specs.declared.hash_table.Vacancy.{Vacancy}
use Rattle.bucket_table.specs.declared.hash_table.Vacancy.TheVariants.{NoArray, NoMemory, Ready}

-- after a unit was worked and its sources moved, it is ready; or there was no array; or allocation failed for one of its sources
abbrev pub IsVacancy : {K V : Type 0} → Vacancy → ℕ → ArraysView K V → ArraysView K V → Type 0
IsVacancy Ready hash old new = IsReady new hash
IsVacancy NoArray hash old new = (length old.current ≡ 0) × (length old.linked ≡ 0)
IsVacancy NoMemory hash old new = (0 < length old.linked) × HomeNeedsMemory hash old new
