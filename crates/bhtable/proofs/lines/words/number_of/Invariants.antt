use Rattle.std.proofs.Common.{drop}
use Rattle.bhtable.proofs.Numbers.{IsReadTo}
use Rattle.bhtable.proofs.lines.words.number_of.Given as goal

abbrev pub invariant-loop-byte : goal.invariant-loop-byte
invariant-loop-byte l = IsReadTo l.word l.number (drop l.byte-index l.word)
