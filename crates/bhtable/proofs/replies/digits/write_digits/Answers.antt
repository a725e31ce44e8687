use Rattle.std.proofs.Common.{arith}
use Rattle.bhtable.proofs.DigitLemmas.{first_two_written, first_written, two_written}
use Rattle.bhtable.proofs.replies.digits.write_digits.Goals as goal

pub loop-rest-preserved : goal.loop-rest-preserved
loop-rest-preserved c =
    let l = c.loop-rest in
    two_written _ l.rest l.last l.digits l.invariant (omega arith) (omega arith)

pub returns-then-rest-lt10-clause-written : goal.returns-then-rest-lt10-clause-written
returns-then-rest-lt10-clause-written c =
    let l = c.loop-rest in
    first_written _ l.rest l.last l.digits l.invariant (omega arith)

pub returns-clause-written : goal.returns-clause-written
returns-clause-written c =
    let l = c.loop-rest in
    first_two_written _ l.rest l.last l.digits l.invariant (omega arith) (omega arith)
