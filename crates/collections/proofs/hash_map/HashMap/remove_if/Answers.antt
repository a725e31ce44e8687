use Rattle.std.proofs.Common.{refl}
use Rattle.collections.specs.Slots.{LosesSlots}
use Rattle.collections.proofs.Removals.{removes_if}
use Rattle.collections.proofs.Slots.{slots_same}
use Rattle.collections.proofs.hash_map.HashMap.remove_if.Goals as goal

pub returns-then-asks-clause-map : goal.returns-then-asks-clause-map
returns-then-asks-clause-map g c =
    removes_if g.K.PartialEq.eq g.met.K.Eq.laws (g.Q.KeyForm.stands_for c.args.key) (g.met.Q.KeyForm.alike c.args.key)
    (goal.F-post g c.args.condition) c.args.self.now c.remove.new.self (rw (← c.self.view_is) c.asks.ensures.unique) c.remove.result
    (rw (← c.self.view_is) (rw c.if-asks.true at c.asks.ensures.asked)) c.remove.ensures.map

pub returns-else-asks-clause-map : goal.returns-else-asks-clause-map
returns-else-asks-clause-map g c = (rw (← c.self.view_is) (rw c.if-asks.false at c.asks.ensures.asked), refl)

pub returns-else-asks-clause-slots : goal.returns-else-asks-clause-slots
unfolding LosesSlots
returns-else-asks-clause-slots g c = slots_same c.args.self.now _ refl refl
