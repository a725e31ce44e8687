use Rattle.std.proofs.Common.{◌≡◌, ◌∙◌, Ok, Err, sym}
use Rattle.std.specs.Result.{result_and}
use Rattle.bhtable.proofs.Closing.{IsReady, ready}
use Rattle.bhtable.proofs.Ending.{IsAnswered, IsReplied, ended_answered}
use Rattle.bhtable.proofs.Outputs.{ready_written}
use Rattle.bhtable.proofs.session.Session.finish.Goals as goal
use Rattle.bhtable.proofs.session.Session.finish.Goals.{in-Ok, in-Err}

pub returns : goal.returns
returns g c start lines left =
    let output = g.W.Write.contents c.answer.new.output in
    let step : IsAnswered c.answer.result (g.W.Write.contents c.args.output.now) output c.args.self c.answer.new.self = record {
      answered = c.answer.ensures.answered;
      none = c.answer.ensures.none;
      table = c.answer.ensures.table;
      stop = c.answer.ensures.stop;
    } in
    let replied : IsReplied (result_and c.answer.result c.args.ended) start output c.answer.new.self.replies lines =
    ended_answered c.answer.result c.args.ended start _ output c.args.self c.answer.new.self lines step left in
    let made : IsReady c.match-and.ended start (g.W.Write.contents c.match-and.output) c.match-and.self.replies lines =
    elim c.match-and.branch [
      | in-Ok w ↦
          let ended : result_and c.answer.result c.args.ended ≡ Ok w.in-Ok.field-0 = sym c.and.ensures ∙ w.in-Ok.is in
          rw (w.ended-is, w.output-is, w.self-is) (rw ended at replied)
      | in-Err w ↦
          let ended : result_and c.answer.result c.args.ended ≡ Err w.in-Err.stop = sym c.and.ensures ∙ w.in-Err.is in
          rw (w.ended-is, w.and-ended.ensures, w.output-is, w.self-is) (ready w.in-Err.stop w.push_stop.result start output _
          c.answer.new.self.replies w.push_stop.new.self lines (rw ended at replied) w.push_stop.ensures)
    ] in
    rw c.and-2.ensures (ready_written c.write_out.result c.match-and.ended start _ _ c.match-and.self.replies c.write_out.new.self lines
    made c.write_out.ensures.empty c.write_out.ensures.written c.write_out.ensures.stop)
