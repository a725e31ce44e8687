use Rattle.example_callers.proofs.Moving.{added, taken}
use Rattle.example_callers.proofs.ledger.settle.Goals.{then-one+in_ok-add, else-one+in_ok-take}
use Rattle.example_callers.proofs.ledger.settle.Goals as goal

pub loop-one-preserved : goal.loop-one-preserved
loop-one-preserved g c name =
    let eq = g.K.PartialEq.eq in
    let laws = g.met.K.Eq.laws in
    let at = c.loop-one in
    elim c.if-one.branch [
      | then-one+in_ok-add w ↦ rw w.counts-is (added eq laws c.args.moves.now at.one-index c.one-item.result c.loop-one-test.true
          c.one-item.is at.counts w.add.new.counts _ w.in_ok-add.ensures.moved name _ _ _ (at.invariant name) w.if-one.true
          w.in_ok-add.ensures.sum)
      | else-one+in_ok-take w ↦ rw w.counts-is (taken eq laws c.args.moves.now at.one-index c.one-item.result c.loop-one-test.true
          c.one-item.is at.counts w.take.new.counts _ w.in_ok-take.ensures.moved name _ _ _ (at.invariant name) w.if-one.false
          w.in_ok-take.ensures.left)
    ]
