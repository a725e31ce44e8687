use Rattle.bucket_table.proofs.Words.{false≢true, sym, ◌∙◌}
use Rattle.bucket_table.proofs.Views.Keeping.{keeps_same}
use Rattle.bucket_table.proofs.Resize.Settling.{resizes_asked, stays_unasked}
use Rattle.bucket_table.proofs.arrays.Arrays.try_shrink.Goals as goal

pub returns-then-not-asks_shrinking : goal.returns-then-not-asks_shrinking
returns-then-not-asks_shrinking g c = record {
  asked = stays_unasked _ (λ h. false≢true (sym c.if-not-asks_shrinking.true ∙ c.asks_shrinking.ensures.1 h));
  kept = keeps_same c.args.self.now;
  placed = λ hash law. law;
}

pub returns-clause-asked : goal.returns-clause-asked
returns-clause-asked g c =
    resizes_asked _ _ c.try_resize.result (c.asks_shrinking.ensures.0 c.if-not-asks_shrinking.false) c.try_resize.ensures.resized
