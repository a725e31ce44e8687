use Rattle.bucket_table.proofs.Words.{arith, rules}
use Rattle.bucket_table.proofs.Moves.Carried.{begun_only, begun_spread, can_move_unlisted, taken_order}
use Rattle.bucket_table.proofs.Moves.SpreadHomes.{spread_moving}
use Rattle.bucket_table.proofs.arrays.relocate.take_order.Goals as goal

pub returns-then-len-gt0 : goal.returns-then-len-gt0
returns-then-len-gt0 g c =
    let hash = g.H.KeyHash.hash_of c.args.hasher.now in
    let taken = c.take_lru-len.ensures in
    record {
      ready = can_move_unlisted hash taken.bucket c.requires;
      order = taken_order c.fact_sound.ensures taken.slots taken.number taken.not_kept;
      number = taken.number;
      bytes = taken.slots;
      begun = begun_only hash c.args.current.now taken.bucket;
    }

pub returns : goal.returns
returns g c =
    let hash = g.H.KeyHash.hash_of c.args.hasher.now in
    let taken = c.take_lru-len.ensures in
    let ready = can_move_unlisted hash taken.bucket c.requires in
    let moving = spread_moving hash g.row.TYPE c.args.start c.args.end _ (λ key n post. search rules) c.take_lru-len.new.self
    c.args.current.now ready c.spread_own.new.source c.spread_own.new.self c.spread_own.ensures in
    record {
      ready = moving.ready;
      order = taken_order c.fact_sound.ensures taken.slots taken.number taken.not_kept;
      number = taken.number;
      bytes = taken.slots;
      begun = begun_spread hash taken.bucket (omega (arith, taken.number, c.if-len-gt0.false)) moving;
    }
