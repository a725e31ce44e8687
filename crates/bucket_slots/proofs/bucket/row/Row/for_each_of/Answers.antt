use Rattle.bucket_slots.proofs.Words.{arith, of_calls, ◌∙◌}
use Rattle.bucket_slots.proofs.Bitmaps.{ones-cleared, ones-none}
use Rattle.bucket_slots.proofs.LiveMasks.{calling_done, calling_first, calling_next, live_read}
use Rattle.bucket_slots.proofs.bucket.row.Row.for_each_of.Goals as goal

pub loop-called-init : goal.loop-called-init
loop-called-init g c =
    (λ always. always, calling_first _ c.args.f.now c.args.self.now _ c.requires.mask, omega arith)

pub loop-called-preserved : goal.loop-called-preserved
loop-called-preserved g c =
    let calling = c.loop-called.invariant.1 in
    let low = c.lowest_bit-pos.ensures in
    let clears = c.without_lowest-left.ensures.bits _ low in (
      λ always. let here = c.loop-called.invariant.0 always in search of_calls,
      calling_next _ c.args.f.now c.loop-called.f c.f.new.self c.args.self.now _ _ _ c.pair.result.0 c.pair.result.1
          calling low
          clears (live_read c.args.self.now _ _ _ calling.names low ∙ c.pair.ensures) c.f.ensures,
      omega (arith, ones-cleared _ _ _ clears low.set, c.loop-called.invariant.2),
    )

pub returns-clause-calls : goal.returns-clause-calls
returns-clause-calls g c =
    let calling = c.loop-called.invariant.1 in
    let none = ones-none c.loop-called.left (omega (arith, c.loop-called.invariant.2, c.loop-called-test.false)) in
    calling_done _ c.args.f.now c.loop-called.f c.args.self.now (rw none at calling)
