-- What a line and a row of a report are, seen by their bytes.
use Rattle.std.specs.Prelude.{ℕ, ◌≡◌, ◌++◌, false, List, map}
use Rattle.example_word_count.specs.Reports.{Row}
use Rattle.example_word_count.specs.declared.line.Line.{Line}
use Rattle.example_word_count.specs.declared.report.Counted.{Counted}
use Rattle.example_word_count.specs.declared.report.Rows.{Rows}

abbrev pub bytes_of : Line → List ℕ
bytes_of line = line.bytes.now

abbrev pub row_of : Counted → Row
row_of counted = record { count = counted.count.0; line = bytes_of counted.line }

-- the row of a line that a map counts
abbrev pub row_of_pair : Line × ℕ → Row
row_of_pair pair = record { count = pair.1; line = bytes_of pair.0 }

-- if allocation didn't fail, these rows follow the others
abbrev pub HasTaken : Rows → List Row → Rows → Type 0
HasTaken before rows after =
    after.is_refused ≡ false → (before.is_refused ≡ false) × (map row_of after.taken.items ≡ map row_of before.taken.items ++ rows)
