use Rattle.bucket_table.proofs.Words.{ap, arith, length}
use Rattle.bucket_table.proofs.Walking.Leaving.{left_both}
use Rattle.bucket_table.proofs.Walking.RetainingEach.{all_asked, asks, fewer}
use Rattle.bucket_table.proofs.Walking.AskingOwn.{asking_front}
use Rattle.bucket_table.proofs.retain.retain_each_in.Goals as goal

pub own-init : goal.own-init
own-init g c =
    let epoch = g.G.Generation.epoch_of c.args.generation.now in (
      c.retain_front-at.ensures.again,
      asking_front _ c.args.keep.now c.retain_front-at.new.keep c.args.bucket.now c.retain_front-at.new.bucket c.retain_front-at.result
          c.retain_front-at.ensures.own_long c.retain_front-at.ensures.asked,
      c.retain_front-at.ensures.left epoch,
    )

pub own-smaller : goal.own-smaller
own-smaller g c =
    let m = c.find_next_here.ensures.ahead c.own-test.true in
    omega (arith, ap length m.ahead, ap length (c.ask_slot.ensures.asked m.pair m.here).ahead)

pub own-preserved : goal.own-preserved
own-preserved g c =
    let m = c.find_next_here.ensures.ahead c.own-test.true in (
      c.ask_slot.ensures.again,
      asks _ g.row.TYPE c.args.keep.now c.own.keep c.ask_slot.new.ask c.args.bucket.now
          c.own.bucket c.ask_slot.new.bucket c.own.at c.find_next_here.new.self c.ask_slot.new.at _ m
          (c.ask_slot.ensures.asked m.pair m.here) c.own.invariant.1,
      left_both g.row.TYPE (g.G.Generation.epoch_of c.args.generation.now) c.args.bucket.now c.own.bucket c.ask_slot.new.bucket
          c.own.invariant.2 c.ask_slot.ensures.left,
    )

pub pairs-init : goal.pairs-init
pairs-init g c = rw (c.find_next_here.ensures.stays c.own-test.false) c.own.invariant

pub pairs-smaller : goal.pairs-smaller
pairs-smaller g c =
    let m = c.find_next.ensures.ahead c.pairs-test.true in
    omega (arith, ap length m.ahead, ap length (c.ask_slot-in-pairs.ensures.asked m.pair m.here).ahead)

pub pairs-preserved : goal.pairs-preserved
pairs-preserved g c =
    let m = c.find_next.ensures.ahead c.pairs-test.true in (
      c.ask_slot-in-pairs.ensures.again,
      asks _ g.row.TYPE c.args.keep.now c.pairs.keep c.ask_slot-in-pairs.new.ask c.args.bucket.now
          c.pairs.bucket c.ask_slot-in-pairs.new.bucket c.pairs.at c.find_next.new.self c.ask_slot-in-pairs.new.at _ m
          (c.ask_slot-in-pairs.ensures.asked m.pair m.here) c.pairs.invariant.1,
      left_both g.row.TYPE (g.G.Generation.epoch_of c.args.generation.now) c.args.bucket.now c.pairs.bucket
          c.ask_slot-in-pairs.new.bucket c.pairs.invariant.2 c.ask_slot-in-pairs.ensures.left,
    )

pub overflow_sub-result : goal.overflow_sub-result
overflow_sub-result g c =
    let less = fewer _ _ _ c.args.bucket.now c.pairs.bucket c.pairs.at c.pairs.invariant.1 in
    omega (arith, less, c.len-before.ensures, c.len.ensures)

pub returns-clause-retained : goal.returns-clause-retained
returns-clause-retained g c =
    let amid = c.pairs.invariant.1 in
    let less = fewer _ _ _ c.args.bucket.now c.pairs.bucket c.pairs.at amid in
    record {
      asked = all_asked _ _ _ _ _ c.pairs.at amid (c.find_next.ensures.end c.pairs-test.false).ahead;
      counted = omega (arith, less, c.len-before.ensures, c.len.ensures);
    }
