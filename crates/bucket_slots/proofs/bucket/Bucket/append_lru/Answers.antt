use Rattle.bucket_slots.proofs.Words.{arith, order_with_oldest, sym, ◌∙◌}
use Rattle.bucket_slots.proofs.BucketRecency.{IsBucket-appended, relisted-chain, relisted-own}
use Rattle.bucket_slots.proofs.ChangedSlots.{own_live}
use Rattle.bucket_slots.proofs.FilledPlaces.{fits_w8}
use Rattle.bucket_slots.proofs.bucket.Bucket.append_lru.Goals as goal

pub invariant_of-self : goal.invariant_of-self
invariant_of-self g c =
    let live = own_live _ _ c.args.at.now _ c.self.view_is (omega arith) c.pos.ensures c.self.invariant.1 c.requires.live_slot in (
      c.make_oldest-self-inside.ensures.tail,
      IsBucket-appended g.row.TYPE _ c.self.inside.chained c.pos.result _ _ c.requires.cache
          c.self.invariant.1 live.1 c.make_oldest-self-inside.ensures.order,
    )

pub returns-then-block-eq0 : goal.returns-then-block-eq0
returns-then-block-eq0 g c =
    relisted-own order_with_oldest g.L.LruList.KEEPS _ _ c.args.at.now _ c.self.view_is (sym c.block.ensures ∙ c.if-block-eq0.true)
    (rw c.pos.ensures at c.make_oldest-self-inside.ensures.order)

pub returns-else-block-eq0 : goal.returns-else-block-eq0
returns-else-block-eq0 g c =
    relisted-chain order_with_oldest g.L.LruList.KEEPS c.args.self.now c.args.at.now (λ own. c.if-block-eq0.false (c.block.ensures ∙ own))

pub overflow_cast-pos : goal.overflow_cast-pos
overflow_cast-pos g c =
    let own = sym c.block.ensures ∙ c.if-block-eq0.true in
    fits_w8 _ (own_live _ _ c.args.at.now _ c.self.view_is own c.pos.ensures c.self.invariant.1 c.requires.live_slot).0

pub make_oldest-self-inside-requires-clause-own_tail : goal.make_oldest-self-inside-requires-clause-own_tail
make_oldest-self-inside-requires-clause-own_tail g c = c.self.invariant.0

pub make_oldest-self-inside-requires-clause-own_slot : goal.make_oldest-self-inside-requires-clause-own_slot
make_oldest-self-inside-requires-clause-own_slot g c =
    let own = sym c.block.ensures ∙ c.if-block-eq0.true in
    (own_live _ _ c.args.at.now _ c.self.view_is own c.pos.ensures c.self.invariant.1 c.requires.live_slot).0
