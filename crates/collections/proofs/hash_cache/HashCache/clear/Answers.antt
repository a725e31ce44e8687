use Rattle.collections.proofs.Cleared.{none_kept, pairs_cleared}
use Rattle.collections.proofs.hash_cache.HashCache.clear.Goals as goal

pub returns-clause-map : goal.returns-clause-map
returns-clause-map g c =
    rw (← c.self.view_is) (pairs_cleared c.self.inside.table c.retain.new.self
    (none_kept _ (λ first own before answer after last called. called.met.0) _ _ _ _ c.retain.ensures.retained)
    c.retain.ensures.settings c.retain.ensures.current.len c.retain.ensures.linked.len)

pub returns-clause-buckets : goal.returns-clause-buckets
returns-clause-buckets g c = rw (← c.self.view_is) (record {
  current = c.retain.ensures.current;
  linked = c.retain.ensures.linked;
  tickets = c.retain.ensures.tickets;
})
