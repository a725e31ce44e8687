use Rattle.bucket_table.proofs.Words.{arith, length, ◌<◌}
use Rattle.bucket_table.proofs.Moves.RoomMade.{refused_reserving, reserving_first, reserving_next}
use Rattle.bucket_table.proofs.arrays.reserve.reserve_each.Goals as goal

pub counts-init : goal.counts-init
counts-init g c = reserving_first c.args.start c.args.counts.now c.args.current.now

pub overflow_add-start : goal.overflow_add-start
overflow_add-start g c = omega (arith, c.requires.within, c.counts-test.true, c.len-buckets.ensures.value, c.len-buckets.type_inv)

pub returns-in-Err-clause-kept : goal.returns-in-Err-clause-kept
returns-in-Err-clause-kept g c =
    let some = c.in-Err.ensures.some_blocks in
    let within : c.counts.k < length c.args.counts.now = omega (arith, c.counts-test.true) in
    (refused_reserving c.args.start c.args.counts.now c.args.current.now c.counts.current c.counts.k c.bucket_mut.result.now
    c.reserve_slots.new.self c.counts.invariant within c.requires.within c.bucket_mut.ensures.bucket some.0 some.1).kept

pub counts-preserved : goal.counts-preserved
counts-preserved g c =
    let put = rw c.in_default.is at c.reserve_slots.ensures.slots in
    let within : c.counts.k < length c.args.counts.now = omega (arith, c.counts-test.true) in
    reserving_next c.args.start c.args.counts.now c.args.current.now c.counts.current c.counts.k c.bucket_mut.result.now
    c.reserve_slots.new.self c.counts.invariant within c.requires.within c.bucket_mut.ensures.bucket put.0 put.1 put.2.enough

pub returns-clause-room : goal.returns-clause-room
returns-clause-room g c = λ k below. c.counts.invariant.room k (omega (arith, below, c.counts-test.false))
