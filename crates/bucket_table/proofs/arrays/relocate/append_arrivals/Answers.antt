use Rattle.bucket_table.proofs.Words.{Place, ap, arith, length, refl, rules, ◌<◌, ◌∙◌}
use Rattle.bucket_slots.specs.Evicting.{slots_appended}
use Rattle.bucket_table.proofs.Moves.Arriving.{arriving_first, arriving_none, arriving_some, listable_now}
use Rattle.bucket_table.proofs.arrays.relocate.append_arrivals.Goals.{in-Some, in_default}
use Rattle.bucket_table.proofs.arrays.relocate.append_arrivals.Goals as goal

pub order-init : goal.order-init
order-init g c = arriving_first c.args.landings.now c.args.current.now

pub bounds : goal.bounds
bounds g c = c.requires.order.once.below c.order.slot-index 0 c.order-test.true

pub bucket_mut-target-requires : goal.bucket_mut-target-requires
bucket_mut-target-requires g c =
    let ready = listable_now c.args.landings.now c.args.order.now c.order.slot-index c.args.current.now c.order.current
    c.requires.order.once c.order.invariant _ refl c.order-test.true c.in-Some.landing c.in-Some.is c.requires.table in
    (search rules, (search rules, ready.within))

pub append_lru-requires : goal.append_lru-requires
append_lru-requires g c =
    let below : c.order.slot-index < length c.args.order.now = c.order-test.true in
    let some : 0 < length c.args.order.now = omega arith in
    let ready = listable_now c.args.landings.now c.args.order.now c.order.slot-index c.args.current.now c.order.current
    c.requires.order.once c.order.invariant _ refl c.order-test.true c.in-Some.landing c.in-Some.is c.requires.table in (
      search rules,
      (
        search rules,
        (
          c.requires.order.cache some,
          (
            rw (c.own_slot-at.ensures, c.bucket_mut-target.ensures.bucket) ready.live,
            λ own. rw (c.own_slot-at.ensures, c.bucket_mut-target.ensures.bucket) ready.unlisted,
          ),
        ),
      ),
    )

pub order-preserved : goal.order-preserved
order-preserved g c =
    let below : c.order.slot-index < length c.args.order.now = c.order-test.true in
    let some : 0 < length c.args.order.now = omega arith in
    elim c.match-landings-slot.branch [
      | in-Some w ↦
          rw w.current-is (arriving_some c.args.landings.now c.args.order.now c.order.slot-index c.args.current.now c.order.current
          c.requires.order.once c.order.invariant _ refl c.order-test.true w.in-Some.landing w.in-Some.is c.requires.table
          g.L.LruList.KEEPS w.bucket_mut-target.result.now w.append_lru.new.self (c.requires.order.keeps_slots some)
          w.bucket_mut-target.ensures.bucket
          (w.append_lru.ensures ∙ ap (λ (at : Place). slots_appended g.L.LruList.KEEPS w.bucket_mut-target.result.now at)
          w.own_slot-at.ensures))
      | in_default w ↦
          rw w.current-is (arriving_none c.args.landings.now c.args.order.now c.order.slot-index c.args.current.now c.order.current
          c.requires.order.once c.order.invariant _ refl c.order-test.true w.in_default.is)
    ]

pub bounds-landings-slot : goal.bounds-landings-slot
bounds-landings-slot g c = c.requires.order.once.below c.order.slot-index 0 c.order-test.true
