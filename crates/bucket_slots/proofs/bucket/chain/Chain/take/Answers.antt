use Rattle.bucket_slots.proofs.Words.{ap, arith, length, rows_of, ◌∙◌}
use Rattle.bucket_slots.proofs.ChainRows.{IsCounted-freed, IsCounted-unlinked, first_behind, place_before_next, place_behind_previous}
use Rattle.bucket_slots.proofs.ChainRows.{place_stays, taken}
use Rattle.bucket_slots.proofs.bucket.chain.Chain.take.Goals as goal

pub invariant_of-self : goal.invariant_of-self
invariant_of-self g c =
    let left = taken _ _ (rows_of c.walk-link.result.now) _ c.args.block c.args.pos _ _ c.self.view_is c.requires.within
    c.walk-link.ensures.rest c.take_first-pair.ensures.rows c.take_first-pair.ensures.pair c.take_first-pair.ensures.gone in
    rw left.left_is (IsCounted-freed _ c.args.block c.args.pos c.self.inside.len c.self.invariant (left.gone_is ∙ c.if-not-gone.true))

pub returns-then-not-gone : goal.returns-then-not-gone
returns-then-not-gone g c =
    let left = taken _ _ (rows_of c.walk-link.result.now) _ c.args.block c.args.pos _ _ c.self.view_is c.requires.within
    c.walk-link.ensures.rest c.take_first-pair.ensures.rows c.take_first-pair.ensures.pair c.take_first-pair.ensures.gone in
    rw (← c.self.view_is) (record {
      pair = left.pair_is;
      rows = left.left_is;
      place = c.at.ensures ∙ place_stays _ _ _ _ c.self.invariant.counted (left.gone_is ∙ c.if-not-gone.true);
    })

pub invariant_of-self-then-block-len : goal.invariant_of-self-then-block-len
invariant_of-self-then-block-len g c =
    let left = taken _ _ (rows_of c.walk-link.result.now) _ c.args.block c.args.pos _ _ c.self.view_is c.requires.within
    c.walk-link.ensures.rest c.take_first-pair.ensures.rows c.take_first-pair.ensures.pair c.take_first-pair.ensures.gone in
    rw (left.left_is, c.set.ensures, c.get-len.ensures)
    (IsCounted-unlinked _ c.args.block c.args.pos c.self.inside.len c.self.invariant left.within (left.gone_is ∙ c.if-not-gone.false))

pub returns-then-block-len : goal.returns-then-block-len
returns-then-block-len g c =
    let left = taken _ _ (rows_of c.walk-link.result.now) _ c.args.block c.args.pos _ _ c.self.view_is c.requires.within
    c.walk-link.ensures.rest c.take_first-pair.ensures.rows c.take_first-pair.ensures.pair c.take_first-pair.ensures.gone in
    rw (← c.self.view_is) (record {
      pair = left.pair_is;
      rows = left.left_is;
      place = c.at-then-block-len.ensures ∙ place_before_next _ _ _ _ c.self.invariant.counted (left.gone_is ∙ c.if-not-gone.false)
          (omega (arith, c.if-block-len.true, c.get-len.ensures));
    })

pub invariant_of-self-2 : goal.invariant_of-self-2
invariant_of-self-2 g c =
    let left = taken _ _ (rows_of c.walk-link.result.now) _ c.args.block c.args.pos _ _ c.self.view_is c.requires.within
    c.walk-link.ensures.rest c.take_first-pair.ensures.rows c.take_first-pair.ensures.pair c.take_first-pair.ensures.gone in
    rw (left.left_is, c.set.ensures, c.get-len.ensures)
    (IsCounted-unlinked _ c.args.block c.args.pos c.self.inside.len c.self.invariant left.within (left.gone_is ∙ c.if-not-gone.false))

pub returns : goal.returns
returns g c =
    let left = taken _ _ (rows_of c.walk-link.result.now) _ c.args.block c.args.pos _ _ c.self.view_is c.requires.within
    c.walk-link.ensures.rest c.take_first-pair.ensures.rows c.take_first-pair.ensures.pair c.take_first-pair.ensures.gone in
    rw (← c.self.view_is) (record {
      pair = left.pair_is;
      rows = left.left_is;
      place = c.at-2.ensures ∙ place_behind_previous _ _ _ _ c.self.invariant.counted (left.gone_is ∙ c.if-not-gone.false)
          (omega (arith, c.if-block-len.false, c.get-len.ensures));
    })

pub overflow_add-block : goal.overflow_add-block
overflow_add-block g c =
    record { fits = omega (arith, c.requires.within, ap length c.self.view_is, c.self.invariant.chain.few) }

pub overflow_sub-len : goal.overflow_sub-len
overflow_sub-len g c = omega (arith, c.get-len.ensures, c.self.invariant.counted, ap length c.self.view_is, c.requires.within)

pub overflow_add-block-then-block-len : goal.overflow_add-block-then-block-len
overflow_add-block-then-block-len g c =
    record { fits = omega (arith, c.requires.within, ap length c.self.view_is, c.self.invariant.chain.few) }

pub fact_room-requires : goal.fact_room-requires
fact_room-requires g c = omega (arith, c.requires.within)

pub walk-link-requires-clause-within : goal.walk-link-requires-clause-within
walk-link-requires-clause-within g c = omega (arith, ap length c.self.view_is, c.requires.within)

pub walk-link-requires-clause-reached : goal.walk-link-requires-clause-reached
walk-link-requires-clause-reached g c = omega (arith, ap length c.self.view_is, c.requires.within, c.self.invariant.chain.few)

pub take_first-pair-requires : goal.take_first-pair-requires
take_first-pair-requires g c =
    (omega arith, (c.requires.pos, rw (c.walk-link.ensures.rest, first_behind, c.self.view_is) c.requires.live_slot))
