-- Copies of the keys so far are inserted.
use Rattle.std.specs.Prelude.{map}
use Rattle.collections.specs.Collecting.{PutsKeys}
use Rattle.collections.proofs.hash_set.collect.HashSetExtendRef.extend.Given as goal

abbrev pub invariant-loop-key : goal.invariant-loop-key
invariant-loop-key g l = PutsKeys g.K.PartialEq.eq l.fn.self (map (λ key. key.now) l.yielded) l.self
