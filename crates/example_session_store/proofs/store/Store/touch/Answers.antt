use Rattle.std.proofs.Common.{refl}
use Rattle.example_session_store.proofs.Touching.{left_expired, renewed}
use Rattle.example_session_store.proofs.store.Store.touch.Goals as goal

pub returns-then-has_expired : goal.returns-then-has_expired
returns-then-has_expired c =
    let there = rw c.in_ok-session.was at (c.get_mut.follows.holds c.in_ok-session.session.now) in
    left_expired c.args.token c.args.now c.args.self.now _ c.in_ok-session.session.now _ there.0.0 there.0.1 refl _ c.has_expired.ensures
    c.if-has_expired.true refl

pub returns : goal.returns
returns c =
    let there = rw c.in_ok-session.was at
    (c.get_mut.follows.holds (record c.in_ok-session.session.now { deadline = c.deadline-deadline.result })) in
    renewed c.args.token c.args.now c.args.self.now _ c.in_ok-session.session.now _ there.0.0 there.0.1 refl _ c.has_expired.ensures
    c.if-has_expired.false c.deadline-deadline.result c.deadline-deadline.ensures refl
