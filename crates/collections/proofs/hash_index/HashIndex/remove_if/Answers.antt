use Rattle.std.proofs.Common.{inl, refl}
use Rattle.collections.specs.Maps.{map_of}
use Rattle.collections.specs.Slots.{LosesSlots}
use Rattle.collections.proofs.RemovedMarks.{none_marked}
use Rattle.collections.proofs.Removals.{not_false, takes_out_if}
use Rattle.collections.proofs.Slots.{slots_same}
use Rattle.collections.proofs.hash_index.HashIndex.remove_if.Goals as goal

pub returns-then-asks-clause-map : goal.returns-then-asks-clause-map
returns-then-asks-clause-map g c =
    takes_out_if g.K.PartialEq.eq g.met.K.Eq.laws (g.Q.KeyForm.stands_for c.args.key) (g.met.Q.KeyForm.alike c.args.key)
    (goal.F-post g c.args.condition) (map_of c.args.self.now) (map_of c.remove.new.self) (rw (← c.self.view_is) c.asks.ensures.unique)
    c.remove.result (rw (← c.self.view_is) (rw c.if-asks.true at c.asks.ensures.asked)) c.remove.ensures.map

pub returns-then-asks-clause-unchanged : goal.returns-then-asks-clause-unchanged
returns-then-asks-clause-unchanged g c =
    not_false g.K.PartialEq.eq g.met.K.Eq.laws (g.Q.KeyForm.stands_for c.args.key) (g.met.Q.KeyForm.alike c.args.key)
    (goal.F-post g c.args.condition) (map_of c.args.self.now) (map_of c.remove.new.self) (rw (← c.self.view_is) c.asks.ensures.unique)
    _ c.remove.result (rw (← c.self.view_is) (rw c.if-asks.true at c.asks.ensures.asked)) c.remove.ensures.map

pub returns-else-asks-clause-map : goal.returns-else-asks-clause-map
returns-else-asks-clause-map g c = (rw (← c.self.view_is) (rw c.if-asks.false at c.asks.ensures.asked), refl)

pub returns-else-asks-clause-marks : goal.returns-else-asks-clause-marks
returns-else-asks-clause-marks g c = record { stood = λ mark there. inl there }

pub returns-else-asks-clause-marked : goal.returns-else-asks-clause-marked
returns-else-asks-clause-marked g c = none_marked c.args.self.now.arrays

pub returns-else-asks-clause-slots : goal.returns-else-asks-clause-slots
unfolding LosesSlots
returns-else-asks-clause-slots g c = slots_same (map_of c.args.self.now) _ refl refl
