use Rattle.bucket_table.proofs.Words.{IsInRange, arith, false≢true, inr}
use Rattle.bucket_table.proofs.Rehash.Killing.{only_more, only_same}
use Rattle.bucket_table.proofs.Rehash.Spending.{spends_both, spends_none, spends_one, spends_same}
use Rattle.bucket_table.proofs.Rehash.UnitSteps.{range_more, range_none, some_refused, some_worked}
use Rattle.bucket_table.proofs.Rehash.NeedingMemory.{range_wants}
use Rattle.bucket_table.proofs.arrays.Arrays.relocate_range.Goals as goal

pub buckets-init : goal.buckets-init
buckets-init g c = (
  range_none c.args.start c.args.self.now,
  c.requires.placed,
  spends_same c.args.self.now.linked,
  λ i alive. inr alive,
)

pub returns-in_default-clause-worked : goal.returns-in_default-clause-worked
returns-in_default-clause-worked g c = some_refused _ c.buckets.index c.args.end _ _ _ c.buckets.invariant.0 c.in_default.ensures.refused

pub returns-in_default-clause-spends : goal.returns-in_default-clause-spends
returns-in_default-clause-spends g c = spends_both _ _ _ c.buckets.invariant.2 (spends_none _ _ c.in_default.ensures.refused)

pub returns-in_default-clause-only : goal.returns-in_default-clause-only
returns-in_default-clause-only g c =
    only_same (IsInRange c.args.start c.args.end) _ _ _ c.buckets.invariant.3 c.in_default.ensures.refused.linked_is

pub buckets-preserved : goal.buckets-preserved
buckets-preserved g c =
    let long = c.buckets.invariant.0.some.killed.len in (
      range_more _ c.buckets.index _ _ _ c.buckets.invariant.0 c.in-Ok.ensures.done
          (omega (arith, c.buckets-test.true, c.requires.within, long)),
      c.in-Ok.ensures.placed,
      spends_both _ _ _ c.buckets.invariant.2 (spends_one c.buckets.index _ _ c.in-Ok.ensures.done
          (omega (arith, c.buckets-test.true, c.requires.within, long))),
      only_more (IsInRange c.args.start c.args.end) c.buckets.index _ _ _ c.buckets.invariant.3 c.in-Ok.ensures.done
          (omega arith, omega (arith, c.buckets-test.true)),
    )

pub returns-clause-worked : goal.returns-clause-worked
returns-clause-worked g c = some_worked _ c.buckets.index c.args.end _ _ c.buckets.invariant.0 (omega (arith, c.buckets-test.false))

pub returns-in_default-clause-wanted : goal.returns-in_default-clause-wanted
returns-in_default-clause-wanted g c = λ refused.
    range_wants c.args.start c.buckets.index c.args.end _ _ _ c.buckets.invariant.0 c.buckets.invariant.2 c.in_default.ensures.refused
    (omega arith) (omega (arith, c.buckets-test.true)) c.requires.within c.in_default.ensures.alive
    (λ needs. false≢true (c.in_default.ensures.succeeds needs))
