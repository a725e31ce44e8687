use Rattle.std.proofs.Common.{inl, sym}
use Rattle.collections.specs.Slots.{GrowsSlots}
use Rattle.collections.proofs.SetSteps.{put_absent}
use Rattle.collections.proofs.hash_set.HashSet.replace.Goals as goal

pub returns-in-Ok-clause-set : goal.returns-in-Ok-clause-set
returns-in-Ok-clause-set g c =
    put_absent g.K.PartialEq.eq g.met.K.Eq.laws c.args.key c.args.self.now c.insert.new.self c.in-Ok._added (sym c.if-not-contains.ensures)
    c.in-Ok.ensures.set

pub returns-clause-slots : goal.returns-clause-slots
unfolding GrowsSlots
returns-clause-slots g c = rw (← c.self.view_is) (inl c.swap_key.ensures.slots)
