use Rattle.bhtable.proofs.Taking.{taken_blank}
use Rattle.bhtable.proofs.Turning.{at_line}
use Rattle.bhtable.proofs.session.Session.take.Goals as goal

pub returns-in-Ok-None-clause-taken : goal.returns-in-Ok-None-clause-taken
returns-in-Ok-None-clause-taken g c start lines taken =
    taken_blank start _ c.args.self.now lines c.args.line.now taken c.requires (rw c.in-Ok-None.field-0-is at c.in-Ok-None.ensures.asked)

pub returns-in-Ok-Some-New-clause-taken : goal.returns-in-Ok-Some-New-clause-taken
returns-in-Ok-Some-New-clause-taken g c start lines taken =
    let asks = rw (c.in-Ok-Some-New.field-0-is, c.in-Ok-Some-New.field-0-0-is) at c.in-Ok-Some-New.ensures.asked in
    at_line c.start.result _ _ _ _ (c.start.ensures.taken start lines c.args.line.now taken c.requires asks) c.start.ensures.stop

pub returns-in-Ok-Some-Call-clause-taken : goal.returns-in-Ok-Some-Call-clause-taken
returns-in-Ok-Some-Call-clause-taken g c start lines taken =
    let asks = rw (c.in-Ok-Some-Call.field-0-is, c.in-Ok-Some-Call.field-0-0-is) at c.in-Ok-Some-Call.ensures.asked in
    at_line c.gather.result _ _ _ _ (c.gather.ensures.taken start lines c.args.line.now taken c.requires asks) c.gather.ensures.stop

pub returns-in-Ok-Some-Epoch-clause-taken : goal.returns-in-Ok-Some-Epoch-clause-taken
returns-in-Ok-Some-Epoch-clause-taken g c start lines taken =
    let asks = rw (c.in-Ok-Some-Epoch.field-0-is, c.in-Ok-Some-Epoch.field-0-0-is) at c.in-Ok-Some-Epoch.ensures.asked in
    at_line c.set_epoch.result _ _ _ _ (c.set_epoch.ensures.taken start lines c.args.line.now taken c.requires asks)
    c.set_epoch.ensures.stop

pub returns-in-Ok-Some-Question-clause-taken : goal.returns-in-Ok-Some-Question-clause-taken
returns-in-Ok-Some-Question-clause-taken g c start lines taken =
    let asks = rw (c.in-Ok-Some-Question.field-0-is, c.in-Ok-Some-Question.field-0-0-is) at c.in-Ok-Some-Question.ensures.asked in
    at_line c.tell.result _ _ _ _ (c.tell.ensures.taken start lines c.args.line.now taken c.requires asks) c.tell.ensures.stop
