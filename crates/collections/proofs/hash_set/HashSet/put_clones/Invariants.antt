-- Clones of the keys so far are inserted.
use Rattle.std.proofs.iter.Next as it
use Rattle.std.specs.Iterator.{EndsFrom, items_left}
use Rattle.std.specs.Prelude.{map}
use Rattle.collections.specs.Clones.{PutsClones}
use Rattle.collections.proofs.hash_set.HashSet.put_clones.Given as goal

abbrev pub invariant-loop-key : goal.invariant-loop-key
invariant-loop-key g l = it.Ran g.I.Iterator.can_next (EndsFrom g.I.Iterator.remaining) (items_left g.I.Iterator.remaining)
    g.I.Iterator.next_gives (λ lent. PutsClones g.K.PartialEq.eq g.K.Clone.is_clone l.fn.self (map (λ key. key.now) lent) l.self)
    l.initial.keys l.keys

abbrev pub decreases-loop-key : goal.decreases-loop-key
decreases-loop-key g l = items_left g.I.Iterator.remaining l.keys
