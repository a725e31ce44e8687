use Rattle.bucket_table.proofs.Words.{arith, length, sym, ◌<◌, ◌∙◌}
use Rattle.bucket_table.proofs.Moves.Carried.{carried_over, carries_unlisted}
use Rattle.bucket_table.proofs.Moves.MovingPairs.{MovesInto-trans}
use Rattle.bucket_table.proofs.Moves.Staying.{stay_both}
use Rattle.bucket_table.proofs.arrays.relocate.carry_pairs.Goals as goal

pub returns-then-len-eq0-clause-moved : goal.returns-then-len-eq0-clause-moved
returns-then-len-eq0-clause-moved g c =
    MovesInto-trans (g.H.KeyHash.hash_of c.args.hasher.now) c.args.source.now c.take_order-len.new.source c.move_pairs.new.source
    c.args.current.now c.take_order-len.new.current c.move_pairs.new.current c.take_order-len.ensures.begun.moved c.move_pairs.ensures.moved

pub returns-then-len-eq0-clause-recency : goal.returns-then-len-eq0-clause-recency
returns-then-len-eq0-clause-recency g c =
    let begun = c.take_order-len.ensures.begun in
    let m = c.move_pairs.ensures in
    carries_unlisted c.args.source.now c.args.current.now c.move_pairs.new.current (sym c.take_order-len.ensures.number ∙ c.if-len-eq0.true)
    (λ j. m.landed.same_lists j ∙ begun.same_lists j)
    (stay_both c.args.current.now c.take_order-len.new.current c.move_pairs.new.current begun.stay m.landed.stay)
    (m.in_order c.args.source.now begun.in_order)

pub returns : goal.returns
returns g c =
    let taken = c.take_order-len.ensures in
    let some : 0 < length c.args.source.now.listed = omega (arith, taken.number, c.if-len-eq0.false) in
    let m = c.move_pairs-2.ensures in
    let carried = carried_over g.row.TYPE (g.H.KeyHash.hash_of c.args.hasher.now) c.fact_sound.ensures c.move_pairs-2.auto.landings
    taken.begun taken.bytes taken.number some m.landed (m.in_order c.args.source.now taken.begun.in_order) m.moved m.homes
    c.append_arrivals.ensures in
    record { moved = carried.moved; homes = carried.homes; emptied = m.emptied; recency = carried.recency }
