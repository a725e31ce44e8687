-- The rows of a report, if each pair of a map was taken.
use Rattle.std.proofs.Common.{ℕ, ◌∙◌, List, [], ◌∷◌, ◌++◌, append_assoc, ap, map, sym}
use Rattle.std.specs.List.{FoldsTo}
use Rattle.std.proofs.lemmas.List.{append-nil}
use Rattle.example_word_count.specs.Rows.{HasTaken, row_of, row_of_pair}
use Rattle.example_word_count.specs.declared.line.Line.{Line}
use Rattle.example_word_count.specs.declared.report.Rows.{Rows}

-- the pairs are taken one by one
pub all_taken : (first : Rows) (pairs : List (Line × ℕ)) (last : Rows)
    → FoldsTo (λ before pair after. HasTaken before (row_of_pair pair ∷ []) after) first pairs last
    → HasTaken first (map row_of_pair pairs) last
all_taken first [] last is whole = (ap (λ r. r.is_refused) is ∙ whole, sym (append-nil _ ∙ ap (λ r. map row_of r.taken.items) is))
all_taken first (pair ∷ pairs) last taken whole =
    let rest = all_taken taken.0 pairs last taken.2 whole in
    let one = taken.1 rest.0 in
    (one.0, rest.1 ∙ ap (λ rows. rows ++ map row_of_pair pairs) one.1 ∙ append_assoc _ (row_of_pair pair ∷ []) (map row_of_pair pairs))
