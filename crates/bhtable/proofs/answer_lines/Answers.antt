use Rattle.std.proofs.Common.{[], refl, arith}
use Rattle.std.proofs.lemmas.Result.{err_from_is_err_and}
use Rattle.bhtable.proofs.Finding.{found_cut}
use Rattle.bhtable.proofs.Reading.{nothing_read}
use Rattle.bhtable.proofs.Serving.{ends_at_end, ends_at_line, ends_at_long_line, ends_between, ends_unread, line_taken, read_on}
use Rattle.bhtable.proofs.answer_lines.Goals as goal
use Rattle.bhtable.proofs.answer_lines.Goals.{in-Line+in_ok-take-in-Line, in-Cut+in_ok-write_out-in-Cut+in_ok-read_more-in-Cut}

pub loop-turn-init : goal.loop-turn-init
loop-turn-init g c = record {
  counted = omega arith;
  come = record {
    before = [];
    numbered = refl;
    read = nothing_read _ _ _ c.requires.none c.requires.goes_on;
    taken = c.requires.fresh;
  };
}

pub returns-in_err-take-in-Line : goal.returns-in_err-take-in-Line
returns-in_err-take-in-Line g c =
    let l = c.loop-turn in
    let come = l.invariant.come in
    let p = err_from_is_err_and c.from_residual.result c.from_residual.ensures.1 in
    let stopped = c.in_err-take-in-Line.ensures.taken _ come.before come.taken in
    rw (p.1, p.2) (ends_at_line _ _ _ _ _ _ _ _ come _ c.take.new.self c.in-Line.line c.in_err-take-in-Line.field-0.0
    c.in-Line.ensures.found c.in_err-take-in-Line.ensures.stop (rw c.bytes.ensures at stopped))

pub returns-in-TooLong : goal.returns-in-TooLong
returns-in-TooLong g c = ends_at_long_line _ _ _ _ _ _ _ _ c.loop-turn.invariant.come c.in-TooLong.ensures.found

pub returns-in-End : goal.returns-in-End
returns-in-End g c = ends_at_end _ _ _ _ _ _ _ _ c.loop-turn.invariant.come c.in-End.ensures.found

pub returns-in_err-write_out-in-Cut : goal.returns-in_err-write_out-in-Cut
returns-in_err-write_out-in-Cut g c =
    let come = c.loop-turn.invariant.come in
    let p = err_from_is_err_and c.from_residual-in_err-write_out-in-Cut.result c.from_residual-in_err-write_out-in-Cut.ensures.1 in
    let failed = c.in_err-write_out-in-Cut in
    rw (p.1, p.2) (ends_between _ _ _ _ _ _ _ _ come _ c.write_out.new.self failed.field-0.0 failed.ensures.stop
    (failed.ensures.taken _ come.before come.taken))

pub returns-in_err-read_more-in-Cut : goal.returns-in_err-read_more-in-Cut
returns-in_err-read_more-in-Cut g c =
    let come = c.loop-turn.invariant.come in
    let p = err_from_is_err_and c.from_residual-in_err-read_more-in-Cut.result c.from_residual-in_err-read_more-in-Cut.ensures.1 in
    let written = c.in_ok-write_out-in-Cut.ensures.taken _ come.before come.taken in
    rw (p.1, p.2, c.in_err-read_more-in-Cut.ensures.stop) (ends_unread _ _ _ _ _ _ _ _ come _ c.write_out.new.self written.1)

pub loop-turn-preserved : goal.loop-turn-preserved
loop-turn-preserved g c =
    let l = c.loop-turn in
    let come = l.invariant.come in
    elim c.match-find.branch [
      | in-Line+in_ok-take-in-Line w ↦
          let taken = w.in_ok-take-in-Line.ensures.taken _ come.before come.taken in
          record {
            counted = omega (arith, w.number-is, l.invariant.counted);
            come = rw (
              w.lines-is,
              w.session-is,
              w.output-is,
              w.number-is,
              w.pass.ensures.passed,
              w.pass.ensures.left,
              w.pass.ensures.ended,
            )
                (line_taken _ _ _ _ _ _ _ _ come _ w.take.new.self w.in-Line.line w.in-Line.ensures.found (rw w.bytes.ensures at taken));
          }
      | in-Cut+in_ok-write_out-in-Cut+in_ok-read_more-in-Cut w ↦
          let written = w.in_ok-write_out-in-Cut.ensures.taken _ come.before come.taken in
          record {
            counted = omega (arith, w.number-is, l.invariant.counted);
            come = rw (w.lines-is, w.session-is, w.output-is, w.number-is)
                (read_on _ _ _ _ _ _ _ _ come _ _ _ _ w.write_out.new.self
                (found_cut l.lines.is_ended l.lines.unread w.in-Cut.ensures.found) written.1
                w.in_ok-read_more-in-Cut.ensures.read);
          }
    ]

pub returns : goal.returns
returns g c =
    let come = c.loop-turn.invariant.come in
    ends_unread _ _ _ _ _ _ _ _ come _ c.loop-turn.session come.taken
