use Rattle.bucket_table.proofs.Words.{arith, false≢true, refl, sym, ◌∙◌}
use Rattle.bucket_table.proofs.Resize.Growing.{grown}
use Rattle.bucket_table.proofs.Views.Keeping.{keeps_same}
use Rattle.bucket_table.proofs.Resize.Settling.{resizes_asked, stays_unasked}
use Rattle.bucket_table.proofs.arrays.Arrays.grow_at.Goals as goal

pub returns-in-Ok-true-clause-asked : goal.returns-in-Ok-true-clause-asked
returns-in-Ok-true-clause-asked g c =
    let asks = c.writer_asks_growth.ensures.0 c.if-not-writer_asks_growth.false in
    resizes_asked _ _ c.try_resize.result asks c.try_resize.ensures.resized

pub returns-in-Ok-true-clause-grown : goal.returns-in-Ok-true-clause-grown
returns-in-Ok-true-clause-grown g c =
    let full = (c.writer_asks_growth.ensures.0 c.if-not-writer_asks_growth.false).full in
    rw (c.in-Ok-true.is, c.in-Ok-true.field-0-test) at (grown c.args.self.now _ c.try_resize.result c.args.index
    c.try_resize.ensures.resized c.requires.within (omega (arith, full)))

pub returns-in-Ok-false-clause-asked : goal.returns-in-Ok-false-clause-asked
returns-in-Ok-false-clause-asked g c =
    let asks = c.writer_asks_growth.ensures.0 c.if-not-writer_asks_growth.false in
    resizes_asked _ _ c.try_resize.result asks c.try_resize.ensures.resized

pub returns-in-Err : goal.returns-in-Err
returns-in-Err g c =
    let asks = c.writer_asks_growth.ensures.0 c.if-not-writer_asks_growth.false in
    let full = asks.full in
    let e = c.try_resize.ensures in
    record {
      asked = resizes_asked _ _ c.try_resize.result asks e.resized;
      grown = rw c.in-Err.is at
          (grown c.args.self.now _ c.try_resize.result c.args.index e.resized c.requires.within (omega (arith, full)));
      kept = e.kept;
      placed = e.placed;
    }

pub returns-then-not-writer_asks_growth : goal.returns-then-not-writer_asks_growth
returns-then-not-writer_asks_growth g c = record {
  asked = stays_unasked _ (λ asks. false≢true (sym c.if-not-writer_asks_growth.true ∙ c.writer_asks_growth.ensures.1 asks));
  grown = refl;
  kept = keeps_same c.args.self.now;
  placed = λ hash law. law;
}
