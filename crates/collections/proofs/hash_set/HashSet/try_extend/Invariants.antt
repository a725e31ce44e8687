-- The keys so far are inserted.
use Rattle.std.proofs.iter.Next as it
use Rattle.std.specs.Iterator.{EndsFrom, items_left}
use Rattle.collections.specs.Collecting.{InsertsEach, PutsKeys}
use Rattle.collections.proofs.hash_set.HashSet.try_extend.Given as goal

abbrev pub invariant-loop-key : goal.invariant-loop-key
invariant-loop-key g l = it.Ran g.I.Iterator.can_next (EndsFrom g.I.Iterator.remaining) (items_left g.I.Iterator.remaining)
    g.I.Iterator.next_gives (λ xs. PutsKeys g.K.PartialEq.eq l.fn.self xs l.self
    × InsertsEach g.K.PartialEq.eq g.H.KeyHash.hash_of l.initial.self xs l.self) l.initial.keys l.keys

abbrev pub decreases-loop-key : goal.decreases-loop-key
decreases-loop-key g l = items_left g.I.Iterator.remaining l.keys
