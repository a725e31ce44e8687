use Rattle.std.proofs.Common.{◌≡◌, ◌++◌, length, map}
use Rattle.example_word_count.specs.Lines.{lines_of}
use Rattle.example_word_count.proofs.line.lines_of.Given as goal

-- the lines so far, and those of the rest, are the lines of the text
abbrev pub invariant-loop-rest : goal.invariant-loop-rest
invariant-loop-rest l = map (λ line. line.bytes.now) l.lines.items ++ lines_of l.rest ≡ lines_of l.text

abbrev pub decreases-loop-rest : goal.decreases-loop-rest
decreases-loop-rest l = length l.rest
