use Rattle.bucket_table.proofs.Words.{arith, ◌∙◌}
use Rattle.bucket_table.specs.Walking.Row.{row_of}
use Rattle.bucket_table.proofs.Walking.Row.{passes_on}
use Rattle.bucket_table.proofs.arrays.Arrays.next_own.Goals as goal

pub buckets-preserved : goal.buckets-preserved
buckets-preserved g c =
    passes_on (row_of c.args.self.now) c.args.index.now c.args.at.now c.buckets.index c.buckets.at c.null.result
    _ c.in-Some.ensures.array.same c.buckets.invariant
    (record { ahead = c.in-Some-own_after.ensures.none c.if-left-ne0.false; null = c.null.ensures })

pub overflow_add-index : goal.overflow_add-index
overflow_add-index g c = omega (arith, c.in-Some.ensures.few)

pub returns-then-left-ne0-clause-own : goal.returns-then-left-ne0-clause-own
returns-then-left-ne0-clause-own g c =
    let stands = c.in-Some.ensures.array in
    record {
      within = stands.inside;
      here = c.bucket-then-left-ne0.ensures ∙ stands.same;
      some = c.if-left-ne0.true;
      own = rw c.bucket-then-left-ne0.ensures (c.in-Some-own_after.ensures.some c.if-left-ne0.true);
    }
