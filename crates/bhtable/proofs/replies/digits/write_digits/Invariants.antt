use Rattle.std.proofs.Common.{◌++◌, drop}
use Rattle.std.specs.Fmt.{decimal}
use Rattle.bhtable.proofs.DigitLemmas.{AreWritten}
use Rattle.bhtable.proofs.replies.digits.write_digits.Given as goal

abbrev pub invariant-loop-rest : goal.invariant-loop-rest
invariant-loop-rest l = AreWritten (decimal l.fn.number ++ drop 20 l.fn.digits) l.rest l.last l.digits

abbrev pub decreases-loop-rest : goal.decreases-loop-rest
decreases-loop-rest l = l.rest
