use Rattle.std.proofs.Common.{[], ◌∷◌, sym}
use Rattle.collections.proofs.Visits.{pairs_visited_from}
use Rattle.example_word_count.specs.Rows.{HasTaken, row_of_pair}
use Rattle.example_word_count.proofs.RowsTaken.{all_taken}
use Rattle.example_word_count.proofs.report.Rows.take_all.Goals as goal

pub returns : goal.returns
returns g c =
    let went = pairs_visited_from (λ s. s.0.now) (λ s. s.0.ghost_name) _
    (λ before pair after. HasTaken before (row_of_pair pair ∷ []) after)
    _ _ _ c.for_each_ref.ensures.calls (λ s line count t kept e. (e.met.0, e.met.1)) in
    rw (c.self-1.given.1 (sym went.0)) (all_taken _ _ _ went.1)
