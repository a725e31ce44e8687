use Rattle.bucket_slots.proofs.Words.{ap, arith, length}
use Rattle.bucket_slots.proofs.Recency.Taking.{takes_newest}
use Rattle.bucket_slots.proofs.bucket.recency.take_order.Goals as goal

pub bounds-order-len : goal.bounds-order-len
bounds-order-len g c =
    let own = g.met.L.LruList.distinct c.newest.lru c.newest.left c.newest.invariant.own_tail in
    (takes_newest _ _ _ _ _ c.newest.invariant.takes own.0 own.1 c.newest-test.true).has_room

pub overflow_add-len : goal.overflow_add-len
overflow_add-len g c =
    let own = g.met.L.LruList.distinct c.newest.lru c.newest.left c.newest.invariant.own_tail in
    omega (arith, (takes_newest _ _ _ _ _ c.newest.invariant.takes own.0 own.1 c.newest-test.true).has_room)

pub newest-smaller : goal.newest-smaller
newest-smaller g c =
    let own = g.met.L.LruList.distinct c.newest.lru c.newest.left c.newest.invariant.own_tail in
    let step = takes_newest _ _ _ _ _ c.newest.invariant.takes own.0 own.1 c.newest-test.true in
    omega (arith, step.shorter, ap length c.in-Some.ensures.order)

pub newest-preserved : goal.newest-preserved
newest-preserved g c =
    let own = g.met.L.LruList.distinct c.newest.lru c.newest.left c.newest.invariant.own_tail in
    let step = takes_newest _ _ _ _ _ c.newest.invariant.takes own.0 own.1 c.newest-test.true in
    record { own_tail = c.in-Some.ensures.tail; takes = rw c.in-Some.ensures.order step.takes }
