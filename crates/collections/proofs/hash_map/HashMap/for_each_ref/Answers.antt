use Rattle.collections.proofs.hash_map.HashMap.for_each_ref.Goals as goal

pub returns-clause-calls : goal.returns-clause-calls
returns-clause-calls g c = rw (← c.self.view_is) c.for_each.ensures.calls
