use Rattle.collections.proofs.Cleared.{none_kept, pairs_cleared}
use Rattle.collections.proofs.hash_map.HashMap.clear.Goals as goal

pub returns : goal.returns
returns g c =
    rw (← c.self.view_is) (pairs_cleared c.self.inside.table c.retain.new.self
    (none_kept _ (λ first own before answer after last called. called.met.0) _ _ _ _ c.retain.ensures.retained)
    c.retain.ensures.settings c.retain.ensures.current.len c.retain.ensures.linked.len)
