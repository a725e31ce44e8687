use Rattle.collections.proofs.hash_set.HashSet.remove.Goals as goal

pub returns-clause-set : goal.returns-clause-set
returns-clause-set g c = rw (← c.self.view_is) (c.in-Some.pair, c.in-Some.ensures.map)
