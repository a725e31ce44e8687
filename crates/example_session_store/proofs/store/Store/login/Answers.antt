use Rattle.std.proofs.Common.{refl}
use Rattle.example_session_store.proofs.LoggingIn.{logged_in}
use Rattle.example_session_store.proofs.store.Store.login.Goals as goal

pub returns-in-Ok-clause-logged_in : goal.returns-in-Ok-clause-logged_in
returns-in-Ok-clause-logged_in c =
    logged_in c.args.token _ _ (λ i. record { user = c.args.user; deadline = c.deadline-deadline.ensures i }) c.args.self.now _ refl
    c.in-Ok.evicted c.in-Ok.ensures.map
