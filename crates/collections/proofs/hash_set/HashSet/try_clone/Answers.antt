use Rattle.collections.proofs.hash_set.HashSet.try_clone.Goals as goal

pub returns-in-Ok-clause-copy : goal.returns-in-Ok-clause-copy
returns-in-Ok-clause-copy g c = rw (← c.self.view_is) c.in-Ok.ensures.copy

pub returns-in-Err-clause-succeeds : goal.returns-in-Err-clause-succeeds
returns-in-Err-clause-succeeds g c = rw (← c.self.view_is) c.in-Err.ensures.succeeds
