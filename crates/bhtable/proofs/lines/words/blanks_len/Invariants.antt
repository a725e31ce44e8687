use Rattle.std.proofs.Common.{◌≡◌, drop}
use Rattle.bhtable.specs.Words.{words_of}
use Rattle.bhtable.proofs.lines.words.blanks_len.Given as goal

abbrev pub invariant-loop-at : goal.invariant-loop-at
invariant-loop-at l = words_of (drop l.at l.bytes) ≡ words_of l.bytes
