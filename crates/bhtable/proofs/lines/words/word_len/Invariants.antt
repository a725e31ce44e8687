use Rattle.std.proofs.Common.{◌≡◌, take, drop}
use Rattle.bhtable.specs.Words.{words_after, words_of}
use Rattle.bhtable.proofs.lines.words.word_len.Given as goal

abbrev pub invariant-loop-at : goal.invariant-loop-at
invariant-loop-at l = words_after (take l.at l.bytes) (drop l.at l.bytes) ≡ words_of l.bytes
