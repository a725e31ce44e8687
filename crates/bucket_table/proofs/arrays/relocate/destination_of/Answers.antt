use Rattle.bucket_table.proofs.Words.{arith, length, slot_in}
use Rattle.bucket_table.proofs.Map.LockedSteps.{pair_there}
use Rattle.bucket_table.proofs.Moves.MovingPairs.{home_there}
use Rattle.bucket_table.proofs.Moves.Ways.{way_by_byte, way_by_hash}
use Rattle.bucket_table.proofs.arrays.relocate.destination_of.Goals as goal

pub returns-then-saturating_sub-eq1 : goal.returns-then-saturating_sub-eq1
returns-then-saturating_sub-eq1 g c =
    let hash = g.H.KeyHash.hash_of c.args.hasher.now in
    let ready = c.requires.ready in
    let there = pair_there c.args.source.now c.args.at.now c.requires.live_slot in
    let home = home_there hash ready there.0 there.1 (λ pair here.
    rw c.from.ensures (way_by_byte hash (length c.args.current.now) c.args.targets.0 c.args.targets.1
    c.args.source.now c.args.at.now pair c.partial_hash.result here c.partial_hash.ensures ready.own_bytes ready.in_range
    (rw c.len-buckets.ensures.value at c.len-buckets.ensures.length) ready.within
    (omega (arith, c.saturating_sub.ensures, c.if-saturating_sub-eq1.true)))) in
    record { way = home.way; within = home.within; alive = home.alive }

pub returns : goal.returns
returns g c =
    let hash = g.H.KeyHash.hash_of c.args.hasher.now in
    let there = pair_there c.args.source.now c.args.at.now c.requires.live_slot in
    let home = home_there hash c.requires.ready there.0 there.1 (λ pair here.
    way_by_hash hash (length c.args.current.now) (slot_in c.args.source.now c.args.at.now)
    pair c.key.result.now c.hash_one-hash.result _ here c.key.ensures c.hash_one-hash.ensures c.bucket_index.ensures) in
    record { way = home.way; within = home.within; alive = home.alive }
