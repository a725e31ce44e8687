use Rattle.std.proofs.Common.{refl}
use Rattle.bhtable.specs.declared.session.Session.{Session}
use Rattle.bhtable.proofs.Turning.{wrote}
use Rattle.bhtable.proofs.session.Session.write_out.Goals as goal

pub returns-clause-taken : goal.returns-clause-taken
returns-clause-taken g c start lines taken =
    let answered = c.in_ok-answer.ensures.answered start lines taken in
    let session : Session = record {
      alloc = c.answer.new.self.alloc;
      table = c.answer.new.self.table;
      generation = c.answer.new.self.generation;
      calls = c.answer.new.self.calls;
      replies = c.write_out.new.self;
    } in
    wrote start _ _ c.answer.new.self session lines c.write_out.result answered.1 answered.0 refl refl
    c.write_out.ensures.empty c.write_out.ensures.written
