use Rattle.std.proofs.Common.{[], arith}
use Rattle.std.proofs.KnownBytes.{Appends-nil}
use Rattle.std.proofs.lemmas.List.{take_all}
use Rattle.std.specs.Io.KnownBytes.{append_known}
use Rattle.example_word_count.specs.Rows.{row_of}
use Rattle.example_word_count.proofs.Printing.{at_ok, rows_put, written}
use Rattle.example_word_count.proofs.report.write_rows.Goals as goal

pub loop-counted-init : goal.loop-counted-init
loop-counted-init g c = rw c.requires (Appends-nil (append_known (g.W.Write.contents c.args.output.now) []))

pub loop-counted-preserved : goal.loop-counted-preserved
loop-counted-preserved g c =
    rows_put row_of c.args.report.now c.loop-counted.counted-index _ (g.W.Write.contents c.args.output.now)
    (g.W.Write.contents c.loop-counted.output) (g.W.Write.contents c.write_row.new.output) c.loop-counted.waiting.items
    c.write_row.new.waiting.items c.loop-counted-test.true c.loop-counted.invariant c.in_ok-write_row.ensures

pub returns : goal.returns
returns g c =
    let put = c.loop-counted.invariant in
    let all = take_all c.loop-counted.counted-index c.args.report.now (omega (arith, c.loop-counted-test.false)) in
    let out = c.in_ok-write_out.ensures in
    at_ok c.flush.result (written (g.W.Write.contents c.args.output.now) (g.W.Write.contents c.loop-counted.output)
    (g.W.Write.contents c.write_out.new.output) (g.W.Write.contents c.flush.new.self) c.loop-counted.waiting.items
    c.write_out.new.waiting.items _ (rw all at put) out.empty out.written c.flush.ensures.bytes)
