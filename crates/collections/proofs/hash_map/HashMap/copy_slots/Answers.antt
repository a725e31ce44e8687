use Rattle.collections.proofs.hash_map.HashMap.copy_slots.Goals as goal

pub returns-in-Ok-clause-pairs : goal.returns-in-Ok-clause-pairs
returns-in-Ok-clause-pairs g c = rw (← c.self.view_is) c.in-Ok.ensures.pairs
