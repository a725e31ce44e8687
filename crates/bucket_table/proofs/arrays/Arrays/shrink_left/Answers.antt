use Rattle.bucket_table.proofs.Words.{ap, length, nil_from_length, sym, ◌∙◌}
use Rattle.bucket_table.proofs.Views.Keeping.{keeps_same}
use Rattle.bucket_table.proofs.Resize.Sparse.{emptied_plan, emptied_to, unemptied}
use Rattle.bucket_table.proofs.arrays.Arrays.shrink_left.Goals as goal

pub returns-then-left-ne0 : goal.returns-then-left-ne0
returns-then-left-ne0 g c = record {
  asked = unemptied c.args.pairs _ c.args.index c.args.self.now
      (λ empty. c.if-left-ne0.true (c.requires.left ∙ ap (λ ps. length ps) empty));
  kept = keeps_same c.args.self.now;
  placed = λ hash law. law;
}

pub returns-in-None-clause-asked : goal.returns-in-None-clause-asked
returns-in-None-clause-asked g c =
    let empty = nil_from_length _ (sym c.requires.left ∙ c.if-left-ne0.false) in
    rw c.in-None.is (emptied_plan c.args.index c.args.self.now c.try_shrink.new.self empty c.try_shrink.ensures.asked)

pub returns-in-Some-clause-asked : goal.returns-in-Some-clause-asked
returns-in-Some-clause-asked g c =
    let empty = nil_from_length _ (sym c.requires.left ∙ c.if-left-ne0.false) in
    rw c.in-Some.is (emptied_to _ c.args.index c.args.self.now c.shrink_to.new.self empty c.shrink_to.ensures.asked)
