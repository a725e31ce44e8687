use Rattle.std.proofs.Common.{[], map, take}
use Rattle.example_word_count.specs.Reports.{text_of}
use Rattle.example_word_count.specs.Rows.{row_of}
use Rattle.example_word_count.specs.Waiting.{HasPut}
use Rattle.example_word_count.proofs.report.write_rows.Given as goal

-- the text of the rows so far is written, or waits
abbrev pub invariant-loop-counted : goal.invariant-loop-counted
invariant-loop-counted g l =
    HasPut (g.W.Write.contents l.fn.output) [] (g.W.Write.contents l.output) l.waiting.items
    (text_of (map row_of (take l.counted-index l.report)))
