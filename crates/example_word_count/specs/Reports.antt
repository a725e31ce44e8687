-- The report of some lines, and its text.
use Rattle.std.specs.Prelude.{ℕ, ◌≡◌, ◌<◌, ◌++◌, List, All, Option, codes, flat_map, map, nat_eq}
use Rattle.std.specs.Cmp.Lexicographic.{pointwise, slice_cmp}
use Rattle.std.specs.Fmt.{decimal}
use Rattle.std.specs.Io.KnownBytes.{Appends}
use Rattle.std.specs.List.{Contains, count_by}
use Rattle.std.specs.List.Sorted.{IsStrictlySortedBy}
use Rattle.std.specs.Ordering.{nat_cmp, ordering_then}
use Rattle.std.specs.declared.cmp.Ordering.{Ordering}

-- a line and its count
pub record Row : Type 0 where
  pub count : ℕ
  pub line : List ℕ

-- in descending order of the counts, and then in the order of the bytes
abbrev pub row_cmp : Row → Row → Ordering
row_cmp row other = ordering_then (nat_cmp other.count row.count) (slice_cmp nat_cmp row.line other.line)

-- each row has a line of the text and its count, each line has a row, and the rows are in strict order, so that no line has two
pub record IsReport (lines : List (List ℕ)) (rows : List Row) : Type 0 where
  pub counts : All (λ row. (0 < row.count) × (row.count ≡ count_by (pointwise nat_eq row.line) lines)) rows
  pub complete : All (Contains (map (λ row. row.line) rows)) lines
  pub order : IsStrictlySortedBy row_cmp rows

-- the count, a blank, the line, and what ends it
abbrev pub text_of_row : Row → List ℕ
text_of_row row = decimal row.count ++ codes " " ++ row.line ++ codes "\n"

abbrev pub text_of : List Row → List ℕ
text_of rows = flat_map text_of_row rows

-- the output grew by the text of the lines' report
abbrev pub HasReport : List (List ℕ) → Option (List ℕ) → Option (List ℕ) → Type 0
HasReport lines old new = (rows : List Row) × IsReport lines rows × Appends old new (text_of rows)
