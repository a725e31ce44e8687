use Rattle.bucket_table.proofs.Words.{arith, refl}
use Rattle.bucket_table.proofs.Walking.Leaving.{left_both, left_same}
use Rattle.bucket_table.proofs.Walking.Retaining.{fewer, retained, sets_out, steps}
use Rattle.bucket_table.proofs.retain.retain_in.Goals as goal

pub own-init : goal.own-init
own-init g c = (
  sets_out _ c.args.bucket.now c.null-at.result c.null-at.ensures,
  left_same g.row.TYPE (g.G.Generation.epoch_of c.args.generation.now) c.args.bucket.now,
)

pub own-smaller : goal.own-smaller
own-smaller g c =
    let m = c.find_next_here.ensures.ahead c.own-test.true in
    (steps _ c.args.bucket.now c.own.bucket c.retain_at.new.bucket c.own.at c.find_next_here.new.self c.retain_at.new.at m
    (c.retain_at.ensures.retained m.pair m.here) c.own.invariant.0).1

pub own-preserved : goal.own-preserved
own-preserved g c =
    let m = c.find_next_here.ensures.ahead c.own-test.true in (
      (steps _ c.args.bucket.now c.own.bucket c.retain_at.new.bucket c.own.at c.find_next_here.new.self c.retain_at.new.at m
          (c.retain_at.ensures.retained m.pair m.here) c.own.invariant.0).0,
      left_both g.row.TYPE (g.G.Generation.epoch_of c.args.generation.now) c.args.bucket.now c.own.bucket c.retain_at.new.bucket
          c.own.invariant.1 c.retain_at.ensures.left,
    )

pub pairs-init : goal.pairs-init
pairs-init g c = rw (c.find_next_here.ensures.stays c.own-test.false) c.own.invariant

pub pairs-smaller : goal.pairs-smaller
pairs-smaller g c =
    let m = c.find_next.ensures.ahead c.pairs-test.true in
    (steps _ c.args.bucket.now c.pairs.bucket c.retain_at-in-pairs.new.bucket c.pairs.at c.find_next.new.self c.retain_at-in-pairs.new.at m
    (c.retain_at-in-pairs.ensures.retained m.pair m.here) c.pairs.invariant.0).1

pub pairs-preserved : goal.pairs-preserved
pairs-preserved g c =
    let m = c.find_next.ensures.ahead c.pairs-test.true in (
      (steps _ c.args.bucket.now c.pairs.bucket c.retain_at-in-pairs.new.bucket c.pairs.at c.find_next.new.self
          c.retain_at-in-pairs.new.at m (c.retain_at-in-pairs.ensures.retained m.pair m.here) c.pairs.invariant.0).0,
      left_both g.row.TYPE (g.G.Generation.epoch_of c.args.generation.now) c.args.bucket.now c.pairs.bucket c.retain_at-in-pairs.new.bucket
          c.pairs.invariant.1 c.retain_at-in-pairs.ensures.left,
    )

pub overflow_sub-result : goal.overflow_sub-result
overflow_sub-result g c =
    let less = fewer _ c.args.bucket.now c.pairs.bucket c.pairs.at c.pairs.invariant.0 in
    omega (arith, less, c.len-before.ensures, c.len.ensures)

pub returns-clause-retained : goal.returns-clause-retained
returns-clause-retained g c =
    retained _ c.args.bucket.now c.pairs.bucket c.pairs.at _ (c.find_next.ensures.end c.pairs-test.false).ahead
    (omega (arith, c.len-before.ensures, c.len-before.type_inv)) (rw (c.len-before.ensures, c.len.ensures) refl) c.pairs.invariant.0

pub returns-clause-left : goal.returns-clause-left
returns-clause-left g c = c.pairs.invariant.1
