use Rattle.collections.proofs.hash_cache.HashCache.for_each.Goals as goal

pub returns-clause-calls : goal.returns-clause-calls
returns-clause-calls g c = rw (← c.self.view_is) c.for_each.ensures.calls
