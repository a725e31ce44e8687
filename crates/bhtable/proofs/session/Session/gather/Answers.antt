use Rattle.std.proofs.Common.{refl, IsSome}
use Rattle.bhtable.specs.Layout.Sessions.{HasTaken}
use Rattle.bhtable.specs.declared.session.Session.{Session}
use Rattle.bhtable.proofs.Taking.{taken_all, taken_call, taken_so_far}
use Rattle.bhtable.proofs.session.Session.gather.Goals as goal
use Rattle.bhtable.proofs.session.Session.gather.Goals.{then-len-ge-CALLS_AT_ONCE+in_ok-answer, else-len-ge-CALLS_AT_ONCE}

pub returns-in-Ok-clause-taken : goal.returns-in-Ok-clause-taken
returns-in-Ok-clause-taken g c start lines line taken short asks =
    let now = c.if-len-ge-CALLS_AT_ONCE in
    let before : HasTaken start (g.W.Write.contents now.output) now.self lines = elim now.branch [
      | then-len-ge-CALLS_AT_ONCE+in_ok-answer w ↦
          let answered = w.in_ok-answer.ensures.answered start lines taken in
          rw (w.self-is, w.output-is) (taken_all start _ w.answer.new.self lines answered.1 answered.0)
      | else-len-ge-CALLS_AT_ONCE w ↦ rw (w.self-is, w.output-is) taken
    ] in
    let there : IsSome now.self.table = elim now.branch [
      | then-len-ge-CALLS_AT_ONCE+in_ok-answer w ↦ rw w.self-is (w.in_ok-answer.ensures.table.1 c.requires)
      | else-len-ge-CALLS_AT_ONCE w ↦ rw w.self-is c.requires
    ] in
    let session : Session = record {
      alloc = now.self.alloc;
      table = now.self.table;
      generation = now.self.generation;
      calls = c.push.new.self;
      replies = now.self.replies;
    } in
    taken_call start _ now.self session lines line c.args.call before short asks c.in-Ok.ensures.items refl refl there

pub returns-in-Err-clause-taken : goal.returns-in-Err-clause-taken
returns-in-Err-clause-taken g c start lines line taken short asks =
    let now = c.if-len-ge-CALLS_AT_ONCE in
    let before : HasTaken start (g.W.Write.contents now.output) now.self lines = elim now.branch [
      | then-len-ge-CALLS_AT_ONCE+in_ok-answer w ↦
          let answered = w.in_ok-answer.ensures.answered start lines taken in
          rw (w.self-is, w.output-is) (taken_all start _ w.answer.new.self lines answered.1 answered.0)
      | else-len-ge-CALLS_AT_ONCE w ↦ rw (w.self-is, w.output-is) taken
    ] in
    let session : Session = record {
      alloc = now.self.alloc;
      table = now.self.table;
      generation = now.self.generation;
      calls = c.push.new.self;
      replies = now.self.replies;
    } in
    taken_so_far start _ now.self session lines before c.in-Err.ensures.items refl refl
