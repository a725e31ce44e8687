use Rattle.bucket_table.proofs.Words.{false≢true, sym, ◌∙◌}
use Rattle.bucket_table.proofs.Walking.Row.{no_row}
use Rattle.bucket_table.proofs.arrays.Arrays.has_row.Goals as goal

pub returns-clause-none : goal.returns-clause-none
returns-clause-none g c = λ none.
    no_row c.args.self.now c.fact_sound.ensures (λ some. false≢true (sym none ∙ c.has_current.ensures.1 some))
