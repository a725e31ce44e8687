use Rattle.std.proofs.Common.{rules, arith, not, ◌∙◌, ap}
use Rattle.example_callers.proofs.KeyCounts.{counts_none, counts_put, counts_raised}
use Rattle.example_callers.proofs.counting.count_keys.Goals.{else-is_none-via-then-is_none+else-is_err, else-is_none-via-else-is_none}
use Rattle.example_callers.proofs.counting.count_keys.Goals as goal

pub loop-key-init : goal.loop-key-init
loop-key-init g c = counts_none g.K.PartialEq.eq g.met.K.Eq.laws c.args.counts.now c.requires.empty

pub loop-key-preserved : goal.loop-key-preserved
loop-key-preserved g c =
    let eq = g.K.PartialEq.eq in
    let laws = g.met.K.Eq.laws in
    let keys = c.args.keys.now in
    let at = c.loop-key in
    let raised = c.update-raised in
    elim c.else-is_none.branch [
      | else-is_none-via-then-is_none+else-is_err w ↦ rw w.counts-is (counts_put eq laws keys at.key-index c.key-item.result at.counts
          c.loop-key-test.true c.key-item.is at.invariant.0 _ raised.result raised.new.self w.insert.new.self w.insert.result
          (c.is_none.ensures ∙ ap not w.if-is_none.true) (search (rules, w.is_err.ensures, w.if-is_err.false)) raised.ensures.map
          w.insert.ensures.map)
      | else-is_none-via-else-is_none w ↦ rw w.counts-is (counts_raised eq laws keys at.key-index c.key-item.result at.counts
          c.loop-key-test.true c.key-item.is at.invariant.0 _ (search rules)
          (λ own before after changed. first_of (search (rules, changed), grind (arith, changed)))
          raised.result raised.new.self (c.is_none.ensures ∙ ap not w.if-is_none.false) raised.ensures.map)
    ]
