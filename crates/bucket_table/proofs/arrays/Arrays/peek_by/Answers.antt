use Rattle.bucket_table.proofs.arrays.Arrays.peek_by.Goals as goal

pub returns-in-Some-clause-first : goal.returns-in-Some-clause-first
returns-in-Some-clause-first g c = rw (← c.linked_array.ensures.lent, ← c.self.view_is, c.in-Some.is) c.peek_arrays.ensures.first

pub returns-in-Some-clause-few : goal.returns-in-Some-clause-few
returns-in-Some-clause-few g c = rw (← c.linked_array.ensures.lent, ← c.self.view_is, c.in-Some.is) c.peek_arrays.ensures.few
