use Rattle.bucket_table.proofs.Words.{◌∙◌}
use Rattle.bucket_table.proofs.Map.CountSteps.{held_by_own}
use Rattle.bucket_table.proofs.hash_table.HashTable.bounded_len.Goals as goal

pub returns-clause-count : goal.returns-clause-count
returns-clause-count g c = c.get-2.ensures ∙ rw (← c.self.view_is) c.self.invariant.counted

pub returns-clause-within : goal.returns-clause-within
returns-clause-within g c =
    rw (← c.self.view_is) (held_by_own c.self.inside.arrays (c.get.ensures ∙ c.self.invariant.counted) c.own_slots.type_inv
    c.own_slots.ensures c.if-get-own_slots.false)
