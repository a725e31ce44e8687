use Rattle.std.proofs.Common.{[], refl, ◌∙◌}
use Rattle.std.proofs.slice.Lists.{chained_more}
use Rattle.collections.specs.Loans.{Puts}
use Rattle.collections.specs.Slots.{GrowsSlots}
use Rattle.std.proofs.iter.Next as it
use Rattle.collections.proofs.Capacity.{room_within}
use Rattle.collections.proofs.Collecting.{none_put, one_more_put, put_then_stays, stays_then_put, upsert_puts}
use Rattle.collections.proofs.hash_map.HashMap.try_extend.Goals as goal

pub loop-pair-init : goal.loop-pair-init
loop-pair-init g c =
    let eq = g.K.PartialEq.eq in
    let stays = c.reserve_for.ensures.stays in
    it.begun c.requires.can c.requires.finite (
      stays_then_put eq c.args.self.now c.reserve_for.new.self c.reserve_for.new.self [] stays
          (none_put eq c.reserve_for.new.self stays.kept.unique),
      refl,
    )

pub loop-pair-preserved : goal.loop-pair-preserved
loop-pair-preserved g c =
    let eq = g.K.PartialEq.eq in
    let inv = c.loop-pair.invariant in
    let pair = c.in-Some.pair in
    it.again inv pair c.in-Some.is (c.next.ensures.steps, c.next.ensures.goes) (
      one_more_put eq c.args.self.now c.loop-pair.self c.upsert.new.self inv.seen pair inv.holds.0
          (upsert_puts eq c.loop-pair.self c.upsert.new.self pair.0 pair.1 c.in-Ok.earlier c.in-Ok.ensures.map),
      chained_more (λ before p after. Puts eq before p.0 p.1 after × GrowsSlots g.H.KeyHash.hash_of p.0 before after) c.reserve_for.new.self
          inv.seen c.loop-pair.self pair c.upsert.new.self inv.holds.1 (
            (upsert_puts eq c.loop-pair.self c.upsert.new.self pair.0 pair.1 c.in-Ok.earlier c.in-Ok.ensures.map),
            c.upsert.ensures.slots,
          ),
    )

pub returns-in-Err : goal.returns-in-Err
returns-in-Err g c =
    let inv = c.loop-pair.invariant in
    let (back, none, stays) = c.in-Err.ensures.map in
    rw back (
      inv.seen,
      it.Gave-then inv c.in-Some.is c.next.ensures.steps,
      put_then_stays g.K.PartialEq.eq c.args.self.now c.loop-pair.self c.upsert.new.self inv.seen inv.holds.0 stays,
      stays.gets c.in-Some.pair.0 ∙ none,
      (
        c.reserve_for.new.self,
        c.loop-pair.self,
        room_within g.K.PartialEq.eq c.args.self.now c.reserve_for.new.self _ _ (c.size_hint.ensures.lower c.requires.finite)
            c.reserve_for.ensures,
        inv.holds.1,
        stays,
        c.in-Err.ensures.memory,
      ),
    )

pub returns : goal.returns
returns g c =
    let inv = c.loop-pair.invariant in (
      inv.seen,
      it.Gave-then inv c.in_default.is c.next.ensures.steps,
      inv.holds.0,
      (
        c.reserve_for.new.self,
        room_within g.K.PartialEq.eq c.args.self.now c.reserve_for.new.self _ _ (c.size_hint.ensures.lower c.requires.finite)
            c.reserve_for.ensures,
        inv.holds.1,
      ),
    )
