-- Clones of the pairs so far are inserted.
use Rattle.std.proofs.Common.{length}
use Rattle.collections.proofs.Cloning.{IsCloning}
use Rattle.collections.proofs.hash_map.HashMap.clone_pairs.Given as goal

abbrev pub invariant-loop-pair : goal.invariant-loop-pair
invariant-loop-pair g l =
    IsCloning g.K.PartialEq.eq g.K.Clone.is_clone g.V.Clone.is_clone l.fn.self l.initial.copy l.copy l.pairs

abbrev pub decreases-loop-pair : goal.decreases-loop-pair
decreases-loop-pair g l = length l.pairs
