use Rattle.std.proofs.Common.{inr, refl}
use Rattle.bucket_table.specs.declared.script.reply.Reply.TheVariants.{Done}
use Rattle.bhtable.specs.declared.request.Request.TheVariants.{Epoch}
use Rattle.bhtable.specs.declared.session.Session.{Session}
use Rattle.bhtable.proofs.Turning.{epoch_answered, taken_one}
use Rattle.bhtable.proofs.session.Session.set_epoch.Goals as goal

pub returns-clause-taken : goal.returns-clause-taken
returns-clause-taken g c start lines line taken short asks =
    let answered = c.in_ok-answer.ensures.answered start lines taken in
    let session : Session = record {
      alloc = c.answer.new.self.alloc;
      table = c.answer.new.self.table;
      generation = c.args.generation;
      calls = c.answer.new.self.calls;
      replies = c.push.new.self;
    } in
    let there = c.in_ok-answer.ensures.table.1 c.requires in
    let answer = inr (Epoch c.args.generation, Done, asks, epoch_answered c.answer.new.self.table c.args.generation there, refl) in
    taken_one start _ _ c.answer.new.self session lines line _ _ c.push.result answered.1 answered.0 short answer c.push.ensures refl refl
