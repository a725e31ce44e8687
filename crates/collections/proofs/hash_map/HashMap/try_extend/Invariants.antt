-- The pairs so far are inserted.
use Rattle.std.proofs.iter.Next as it
use Rattle.std.specs.Iterator.{EndsFrom, items_left}
use Rattle.collections.specs.Collecting.{PutsAll, UpsertsEach}
use Rattle.collections.proofs.hash_map.HashMap.try_extend.Given as goal

abbrev pub invariant-loop-pair : goal.invariant-loop-pair
invariant-loop-pair g l = it.Ran g.I.Iterator.can_next (EndsFrom g.I.Iterator.remaining) (items_left g.I.Iterator.remaining)
    g.I.Iterator.next_gives (λ xs. PutsAll g.K.PartialEq.eq l.fn.self xs l.self
    × UpsertsEach g.K.PartialEq.eq g.H.KeyHash.hash_of l.initial.self xs l.self) l.initial.pairs l.pairs

abbrev pub decreases-loop-pair : goal.decreases-loop-pair
decreases-loop-pair g l = items_left g.I.Iterator.remaining l.pairs
