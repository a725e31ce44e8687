-- Copies of the pairs so far are inserted.
use Rattle.collections.specs.Collecting.{PutsAll, copied_pairs}
use Rattle.collections.proofs.hash_map.collect.HashMapExtendTuple2RefRef.extend.Given as goal

abbrev pub invariant-loop-pair : goal.invariant-loop-pair
invariant-loop-pair g l = PutsAll g.K.PartialEq.eq l.fn.self (copied_pairs l.yielded) l.self
