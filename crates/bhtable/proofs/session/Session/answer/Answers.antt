use Rattle.std.proofs.Common.{◌≡◌, [], Some, refl}
use Rattle.bhtable.specs.Layout.Sessions.{table_of}
use Rattle.bhtable.specs.declared.session.Session.{Session}
use Rattle.bhtable.proofs.Taking.{no_items, pushed, replied_all}
use Rattle.bhtable.proofs.TwoRuns.{one_run}
use Rattle.bhtable.proofs.session.Session.answer.Goals as goal

pub returns-in_default-clause-answered : goal.returns-in_default-clause-answered
returns-in_default-clause-answered g c start lines taken =
    let none = taken.needed c.in_default.is in
    (none, replied_all start _ c.args.self.now lines taken none)

pub returns-then-is_empty-clause-answered : goal.returns-then-is_empty-clause-answered
returns-then-is_empty-clause-answered g c start lines taken =
    let none = no_items c.args.self.now.calls.items _ c.args.self.now.calls.ok.0 c.if-is_empty.ensures in
    let replied = replied_all start _ c.args.self.now lines taken none in
    (none, rw c.in-Some.is at replied)

pub returns-clause-answered : goal.returns-clause-answered
returns-clause-answered g c start lines taken =
    let none : c.replace-calls.new.dest.items ≡ [] = rw c.replace-calls.ensures.after c.new.ensures.items in
    let session : Session = record {
      alloc = c.args.self.now.alloc;
      table = Some c.run.new.self;
      generation = c.args.self.now.generation;
      calls = c.replace-calls.new.dest;
      replies = c.push_all.new.self;
    } in
    let calls = c.args.self.now.calls in
    let maps = rw (c.replace-calls.ensures.value, ← c.as_slice.ensures.value) at c.in-Ok.ensures.run in
    let tickets = rw (c.replace-calls.ensures.value, ← c.as_slice.ensures.value) at c.in-Ok.ensures.tickets in
    let before = table_of c.in-Some.table in
    let after = table_of c.run.new.self in
    let ran = one_run calls.items _ before after _ calls.ok.0 c.if-is_empty.ensures maps tickets in (
      none,
      pushed start _ _ c.args.self.now session lines before after c.as_slice.result.now c.push_all.result taken
          (rw c.in-Some.is refl) refl ran c.push_all.ensures none,
    )
