use Rattle.bucket_slots.proofs.Words.{arith, rules}
use Rattle.bucket_slots.proofs.AskingSlots.{asking_at, asking_done, asking_first, asking_next}
use Rattle.bucket_slots.proofs.bucket.row.Row.retain.Goals as goal

pub loop-left-init : goal.loop-left-init
loop-left-init g c = (λ always. always, asking_first _ c.args.keep.now c.args.self.now _ c.live-left.ensures.mask)

pub retain_at-requires : goal.retain_at-requires
retain_at-requires g c =
    let (upto, (below, alive)) = asking_at _ c.args.keep.now c.loop-left.keep c.args.self.now c.loop-left.self c.loop-left.left _
    c.loop-left.invariant.1 c.lowest_bit-pos.ensures in
    (search rules, (c.loop-left.invariant.0 c.requires.callable, (omega (arith, below, c.live-left.ensures.long), alive)))

pub loop-left-preserved : goal.loop-left-preserved
loop-left-preserved g c =
    let (slot, asked, is) = c.retain_at.ensures.asked in (
      λ always. c.retain_at.ensures.again,
      rw is (asking_next _ c.args.keep.now c.loop-left.keep c.retain_at.new.keep c.args.self.now c.loop-left.self c.loop-left.left _ _ slot
          c.loop-left.invariant.1 c.lowest_bit-pos.ensures (c.without_lowest-left.ensures.bits _
          c.lowest_bit-pos.ensures) asked),
    )

pub returns-clause-asked : goal.returns-clause-asked
returns-clause-asked g c =
    asking_done _ c.args.keep.now c.loop-left.keep c.args.self.now c.loop-left.self (rw c.loop-left-test.false at c.loop-left.invariant.1)
