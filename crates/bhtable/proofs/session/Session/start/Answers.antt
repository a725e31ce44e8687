use Rattle.std.proofs.Common.{Some, inr, true, refl, ap}
use Rattle.bucket_table.specs.declared.script.reply.Reply.TheVariants.{Done}
use Rattle.bhtable.specs.declared.request.Request.TheVariants.{New}
use Rattle.bhtable.specs.declared.session.Session.{Session}
use Rattle.bhtable.proofs.Turning.{taken_one}
use Rattle.bhtable.proofs.session.Session.start.Goals as goal

pub returns-clause-taken : goal.returns-clause-taken
returns-clause-taken g c start lines line taken short asks =
    let answered = c.in_ok-answer.ensures.answered start lines taken in
    let session : Session = record {
      alloc = c.answer.new.self.alloc;
      table = Some c.new.result;
      generation = record { epoch = 0; keep = true };
      calls = c.answer.new.self.calls;
      replies = c.push.new.self;
    } in
    let answer = inr (New c.args.new, Done, asks, refl, refl) in
    taken_one start _ _ c.answer.new.self session lines line _ _ c.push.result answered.1 answered.0 short answer c.push.ensures
    (ap Some c.new.ensures) refl
