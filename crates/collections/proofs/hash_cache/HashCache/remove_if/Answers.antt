use Rattle.std.proofs.Common.{refl}
use Rattle.collections.specs.Maps.{map_of}
use Rattle.collections.proofs.Orders.{leaves_none}
use Rattle.collections.proofs.Removals.{not_none, removes_if}
use Rattle.collections.proofs.hash_cache.HashCache.remove_if.Goals as goal

pub returns-then-asks-clause-map : goal.returns-then-asks-clause-map
returns-then-asks-clause-map g c =
    removes_if g.K.PartialEq.eq g.met.K.Eq.laws (g.Q.KeyForm.stands_for c.args.key) (g.met.Q.KeyForm.alike c.args.key)
    (goal.F-post g c.args.condition) (map_of c.args.self.now) (map_of c.remove.new.self) (rw (← c.self.view_is) c.asks.ensures.unique)
    c.remove.result (rw (← c.self.view_is) (rw c.if-asks.true at c.asks.ensures.asked)) c.remove.ensures.map

pub returns-then-asks-clause-unchanged : goal.returns-then-asks-clause-unchanged
returns-then-asks-clause-unchanged g c =
    not_none g.K.PartialEq.eq g.met.K.Eq.laws (g.Q.KeyForm.stands_for c.args.key) (g.met.Q.KeyForm.alike c.args.key)
    (goal.F-post g c.args.condition) (map_of c.args.self.now) (map_of c.remove.new.self) (rw (← c.self.view_is) c.asks.ensures.unique)
    _ c.remove.result (rw (← c.self.view_is) (rw c.if-asks.true at c.asks.ensures.asked)) c.remove.ensures.map

pub returns-else-asks-clause-map : goal.returns-else-asks-clause-map
returns-else-asks-clause-map g c = (rw (← c.self.view_is) (rw c.if-asks.false at c.asks.ensures.asked), refl)

pub returns-else-asks-clause-place : goal.returns-else-asks-clause-place
returns-else-asks-clause-place g c = leaves_none (g.Q.KeyForm.stands_for c.args.key) c.args.self.now.arrays
