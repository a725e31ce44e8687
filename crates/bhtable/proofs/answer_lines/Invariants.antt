use Rattle.std.proofs.Common.{◌≤◌}
use Rattle.bhtable.proofs.Serving.{HasCome}
use Rattle.bhtable.proofs.answer_lines.Given as goal

abbrev pub invariant-loop-turn : goal.invariant-loop-turn
invariant-loop-turn g l = record {
  counted : l.number ≤ l.turn;
  come : HasCome l.fn.lines.left l.lines.left l.lines.is_ended l.lines.unread
      (g.W.Write.contents l.fn.output) (g.W.Write.contents l.output) l.session l.number;
}
