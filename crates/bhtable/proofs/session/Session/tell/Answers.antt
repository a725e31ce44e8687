use Rattle.std.proofs.Common.{inr, refl}
use Rattle.bhtable.specs.declared.request.Request.TheVariants.{Question}
use Rattle.bhtable.specs.declared.session.Session.{Session}
use Rattle.bhtable.proofs.Turning.{taken_one, told_of}
use Rattle.bhtable.proofs.session.Session.tell.Goals as goal

pub returns-clause-taken : goal.returns-clause-taken
returns-clause-taken g c start lines line taken short asks =
    let answered = c.in_ok-answer.ensures.answered start lines taken in
    let session : Session = record {
      alloc = c.answer.new.self.alloc;
      table = c.answer.new.self.table;
      generation = c.answer.new.self.generation;
      calls = c.answer.new.self.calls;
      replies = c.push.new.self;
    } in
    let told = told_of c.answer.new.self.table c.in-Some.table c.args.question c.tell.result c.in-Some.is c.tell.ensures in
    let answer = inr (Question c.args.question, c.tell.result, asks, told, refl) in
    taken_one start _ _ c.answer.new.self session lines line _ _ c.push.result answered.1 answered.0 short answer c.push.ensures refl refl
