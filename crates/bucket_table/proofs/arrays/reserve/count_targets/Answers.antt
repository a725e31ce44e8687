use Rattle.bucket_table.proofs.Words.{arith, length, live_from_pair, live_not_free, rules, slot_in, ◌-◌, ◌<◌}
use Rattle.bucket_table.proofs.Moves.CountingTargets.{counting_done, counting_first, counting_read, fewer_ahead, next_read}
use Rattle.bucket_table.proofs.arrays.reserve.count_targets.Goals as goal

pub pairs-init : goal.pairs-init
pairs-init g c =
    rw c.null-at.ensures (counting_first (g.H.KeyHash.hash_of c.args.hasher.now) _ c.args.start c.args.counts.now c.args.source.now
    c.requires.zeros c.requires.in_range)

pub key-requires : goal.key-requires
key-requires g c =
    let next = c.find_next.ensures.ahead c.pairs-test.true in
    let occupied = live_not_free (slot_in c.args.source.now c.find_next.new.self)
    (live_from_pair (slot_in c.args.source.now c.find_next.new.self) next.pair next.here) in
    (search rules, (search rules, occupied))

pub overflow_sub-counts : goal.overflow_sub-counts
overflow_sub-counts g c =
    (next_read (g.H.KeyHash.hash_of c.args.hasher.now) (length c.args.current.now) c.args.start c.pairs.counts c.args.source.now c.pairs.at
    c.find_next.new.self c.key.result.now _ c.bucket_index-home.result c.pairs.invariant (c.find_next.ensures.ahead c.pairs-test.true)
    c.key.ensures c.hash_one.ensures c.bucket_index-home.ensures).low

pub offset_bounds-counts-home : goal.offset_bounds-counts-home
offset_bounds-counts-home g c =
    let within : c.bucket_index-home.result - c.args.start < length c.pairs.counts = (next_read (g.H.KeyHash.hash_of c.args.hasher.now)
    (length c.args.current.now) c.args.start c.pairs.counts c.args.source.now c.pairs.at c.find_next.new.self c.key.result.now _
    c.bucket_index-home.result c.pairs.invariant (c.find_next.ensures.ahead c.pairs-test.true) c.key.ensures c.hash_one.ensures
    c.bucket_index-home.ensures).within in
    search rules

pub bounds-counts-home : goal.bounds-counts-home
bounds-counts-home g c =
    (next_read (g.H.KeyHash.hash_of c.args.hasher.now) (length c.args.current.now) c.args.start c.pairs.counts c.args.source.now c.pairs.at
    c.find_next.new.self c.key.result.now _ c.bucket_index-home.result c.pairs.invariant (c.find_next.ensures.ahead c.pairs-test.true)
    c.key.ensures c.hash_one.ensures c.bucket_index-home.ensures).within

pub overflow_add-counts : goal.overflow_add-counts
overflow_add-counts g c =
    let next = next_read (g.H.KeyHash.hash_of c.args.hasher.now) (length c.args.current.now) c.args.start c.pairs.counts c.args.source.now
    c.pairs.at c.find_next.new.self c.key.result.now _ c.bucket_index-home.result c.pairs.invariant
    (c.find_next.ensures.ahead c.pairs-test.true) c.key.ensures c.hash_one.ensures c.bucket_index-home.ensures in
    omega (arith, next.few, c.len-most.ensures, c.len-most.type_inv)

pub bounds-counts-home-in-pairs : goal.bounds-counts-home-in-pairs
bounds-counts-home-in-pairs g c =
    (next_read (g.H.KeyHash.hash_of c.args.hasher.now) (length c.args.current.now) c.args.start c.pairs.counts c.args.source.now c.pairs.at
    c.find_next.new.self c.key.result.now _ c.bucket_index-home.result c.pairs.invariant (c.find_next.ensures.ahead c.pairs-test.true)
    c.key.ensures c.hash_one.ensures c.bucket_index-home.ensures).within

pub pairs-smaller : goal.pairs-smaller
pairs-smaller g c =
    fewer_ahead (g.H.KeyHash.hash_of c.args.hasher.now) (length c.args.current.now) c.args.start c.args.source.now c.pairs.at
    c.find_next.new.self (c.find_next.ensures.ahead c.pairs-test.true)

pub pairs-preserved : goal.pairs-preserved
pairs-preserved g c =
    counting_read (g.H.KeyHash.hash_of c.args.hasher.now) (length c.args.current.now) c.args.start c.pairs.counts c.args.source.now
    c.pairs.at c.find_next.new.self c.key.result.now _ c.bucket_index-home.result c.pairs.invariant
    (c.find_next.ensures.ahead c.pairs-test.true) c.key.ensures c.hash_one.ensures c.bucket_index-home.ensures

pub returns : goal.returns
returns g c = λ k below.
    counting_done (g.H.KeyHash.hash_of c.args.hasher.now) (length c.args.current.now) c.args.start c.pairs.counts c.args.source.now
    c.pairs.at c.pairs.invariant (c.find_next.ensures.end c.pairs-test.false).ahead k (omega (arith, below))
