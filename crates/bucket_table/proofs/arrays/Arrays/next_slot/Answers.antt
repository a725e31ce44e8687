use Rattle.bucket_table.proofs.Words.{arith, ◌∙◌}
use Rattle.bucket_table.specs.Walking.Row.{row_of}
use Rattle.bucket_table.proofs.Walking.Row.{moves_on, none_past, passes_on}
use Rattle.bucket_table.proofs.arrays.Arrays.next_slot.Goals as goal

pub returns-then-find_next-clause-moves : goal.returns-then-find_next-clause-moves
returns-then-find_next-clause-moves g c =
    moves_on (row_of c.args.self.now) c.args.index.now c.args.at.now c.buckets.index c.buckets.at c.find_next.new.self
    c.in-Some.bucket.now c.in-Some.ensures.bucket.1 c.buckets.invariant c.in-Some.ensures.bucket.0
    (c.find_next.ensures.ahead c.if-find_next.true)

pub overflow_add-index : goal.overflow_add-index
overflow_add-index g c = omega (arith, c.in-Some.ensures.few)

pub buckets-preserved : goal.buckets-preserved
buckets-preserved g c =
    passes_on (row_of c.args.self.now) c.args.index.now c.args.at.now c.buckets.index c.buckets.at c.find_next.new.self
    c.in-Some.bucket.now c.in-Some.ensures.bucket.1 c.buckets.invariant (c.find_next.ensures.end c.if-find_next.false)

pub returns-clause-end : goal.returns-clause-end
returns-clause-end g c =
    let none = none_past (row_of c.args.self.now) c.buckets.index c.buckets.at c.in_default.ensures.bucket in
    (c.buckets.invariant ∙ none, none)

pub returns-then-find_next-clause-live : goal.returns-then-find_next-clause-live
returns-then-find_next-clause-live g c = c.find_next.ensures.live c.if-find_next.true

pub returns-then-find_next-clause-there : goal.returns-then-find_next-clause-there
returns-then-find_next-clause-there g c = rw (← c.in-Some.ensures.bucket.1) (c.find_next.ensures.live c.if-find_next.true)
