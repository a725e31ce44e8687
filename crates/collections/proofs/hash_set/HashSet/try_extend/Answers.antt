use Rattle.std.proofs.Common.{[], refl, ◌∙◌}
use Rattle.std.proofs.slice.Lists.{chained_more}
use Rattle.collections.specs.Collecting.{PutsKey}
use Rattle.collections.specs.Slots.{GrowsSlots}
use Rattle.std.proofs.iter.Next as it
use Rattle.collections.proofs.Capacity.{room_within}
use Rattle.collections.proofs.SetCollecting.{added_put, keys_then_stay, no_key_put, one_more_key, stays_then_keys}
use Rattle.collections.proofs.hash_set.HashSet.try_extend.Goals as goal

pub loop-key-init : goal.loop-key-init
loop-key-init g c =
    let eq = g.K.PartialEq.eq in
    let laws = g.met.K.Eq.laws in
    let stays = c.reserve_for.ensures.stays in
    it.begun c.requires.can c.requires.finite (
      stays_then_keys eq laws c.args.self.now c.reserve_for.new.self c.reserve_for.new.self [] stays
          (no_key_put eq laws c.reserve_for.new.self stays.kept.unique),
      refl,
    )

pub loop-key-preserved : goal.loop-key-preserved
loop-key-preserved g c =
    let eq = g.K.PartialEq.eq in
    let inv = c.loop-key.invariant in
    let key = c.in-Some.key in
    it.again inv key c.in-Some.is (c.next.ensures.steps, c.next.ensures.goes) (
      one_more_key eq g.met.K.Eq.laws c.args.self.now c.loop-key.self c.insert.new.self inv.seen key inv.holds.0
          (added_put eq g.met.K.Eq.laws c.loop-key.self c.insert.new.self key c.in-Ok._added c.in-Ok.ensures.set),
      chained_more (λ before k after. PutsKey eq before k after × GrowsSlots g.H.KeyHash.hash_of k before after) c.reserve_for.new.self
          inv.seen c.loop-key.self key c.insert.new.self inv.holds.1 (
            (added_put eq g.met.K.Eq.laws c.loop-key.self c.insert.new.self key c.in-Ok._added c.in-Ok.ensures.set),
            c.insert.ensures.slots,
          ),
    )

pub returns-in-Err : goal.returns-in-Err
returns-in-Err g c =
    let inv = c.loop-key.invariant in
    let (back, none, stays) = c.in-Err.ensures.set in
    rw back (
      inv.seen,
      it.Gave-then inv c.in-Some.is c.next.ensures.steps,
      keys_then_stay g.K.PartialEq.eq g.met.K.Eq.laws c.args.self.now c.loop-key.self c.insert.new.self inv.seen inv.holds.0 stays,
      stays.gets c.in-Some.key ∙ none,
      (
        c.reserve_for.new.self,
        c.loop-key.self,
        room_within g.K.PartialEq.eq c.args.self.now c.reserve_for.new.self _ _ (c.size_hint.ensures.lower c.requires.finite)
            c.reserve_for.ensures,
        inv.holds.1,
        stays,
        c.in-Err.ensures.memory,
      ),
    )

pub returns : goal.returns
returns g c =
    let inv = c.loop-key.invariant in (
      inv.seen,
      it.Gave-then inv c.in_default.is c.next.ensures.steps,
      inv.holds.0,
      (
        c.reserve_for.new.self,
        room_within g.K.PartialEq.eq c.args.self.now c.reserve_for.new.self _ _ (c.size_hint.ensures.lower c.requires.finite)
            c.reserve_for.ensures,
        inv.holds.1,
      ),
    )
