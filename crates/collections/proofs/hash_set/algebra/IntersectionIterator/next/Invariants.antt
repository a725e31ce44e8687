use Rattle.std.specs.Prelude.{◌≡◌, filter, length}
use Rattle.collections.specs.Maps.{contains}
use Rattle.collections.proofs.hash_set.algebra.IntersectionIterator.next.Given as goal

-- what is left is what was left
abbrev pub invariant-keys : goal.invariant-keys
invariant-keys g l = filter (contains g.K.PartialEq.eq l.self-inside.other.now) l.self-inside.keys ≡ l.fn.self

abbrev pub decreases-keys : goal.decreases-keys
decreases-keys g l = length l.self-inside.keys
