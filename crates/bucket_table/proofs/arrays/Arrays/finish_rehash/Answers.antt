use Rattle.bucket_table.proofs.Words.{ap, arith, length, refl, ◌+◌, ◌-◌, ◌≡◌}
use Rattle.bucket_table.proofs.Views.Keeping.{kept_both, kept_none}
use Rattle.bucket_table.proofs.Rehash.UnitRuns.{stands_still, units_both}
use Rattle.bucket_table.proofs.Rehash.NeedingMemory.{needed_before}
use Rattle.bucket_table.proofs.arrays.Arrays.finish_rehash.Goals as goal

pub loop-success-init : goal.loop-success-init
loop-success-init g c =
    (c.requires.placed, kept_none c.args.self.now, c.requires.none_open, omega arith, λ none. refl, stands_still _ c.args.self.now)

pub loop-success-smaller : goal.loop-success-smaller
loop-success-smaller g c =
    let one = (c.in-Some.ensures.finishes c.loop-success.invariant.2).one in
    let fewer = one.1 c.if-not-success.false in
    omega (arith, fewer)

pub loop-success-preserved : goal.loop-success-preserved
loop-success-preserved g c =
    let done = c.in-Some.ensures.finishes c.loop-success.invariant.2 in
    let some = done.one.0 in
    let fewer = done.one.1 c.if-not-success.false in
    let so_far = c.loop-success.invariant.3 in (
      c.in-Some.ensures.placed,
      kept_both c.args.self.now c.loop-success.self c.work_unit.new.self c.loop-success.invariant.1 c.in-Some.ensures.kept,
      done.none_open,
      omega (arith, fewer, so_far),
      λ none. let alone = ap (λ a. length a.linked) (c.loop-success.invariant.4 none) in absurd (omega (arith, some, alone, none)),
      units_both _ c.loop-success.count 1 c.args.self.now c.loop-success.self c.work_unit.new.self (λ i none. none) (λ i none. none)
          c.loop-success.invariant.1.current_len
          c.loop-success.invariant.5 c.work_unit.ensures.units,
    )

pub overflow_add-count : goal.overflow_add-count
overflow_add-count g c =
    let fewer = (c.in-Some.ensures.finishes c.loop-success.invariant.2).one.1 c.if-not-success.false in
    let so_far = c.loop-success.invariant.3 in
    omega (arith, fewer, so_far, c.old_len-len.ensures.value, c.old_len-len.ensures.few)

pub returns-then-not-success-clause-kept : goal.returns-then-not-success-clause-kept
returns-then-not-success-clause-kept g c =
    kept_both c.args.self.now c.loop-success.self c.work_unit.new.self c.loop-success.invariant.1 c.in-Some.ensures.kept

pub returns-then-not-success-clause-units : goal.returns-then-not-success-clause-units
returns-then-not-success-clause-units g c =
    let done = (c.in-Some.ensures.finishes c.loop-success.invariant.2).one in
    let here = done.0 in
    let so_far = c.loop-success.invariant.3 in
    let same_len = (c.loop-success.invariant.5.stands (omega (arith, here))).len in
    let stays = (done.2 c.if-not-success.true).0 in
    let steps : c.work_unit.new.self.tickets.position + 1 - c.args.self.now.tickets.position ≡ c.loop-success.count + 1 =
    omega (arith, here, so_far, same_len, stays) in
    rw steps (units_both _ c.loop-success.count 1 c.args.self.now c.loop-success.self c.work_unit.new.self (λ i none. none) (λ i none. none)
    c.loop-success.invariant.1.current_len c.loop-success.invariant.5 c.work_unit.ensures.units)

pub returns-then-not-success-clause-wanted : goal.returns-then-not-success-clause-wanted
returns-then-not-success-clause-wanted g c =
    let done = c.in-Some.ensures.finishes c.loop-success.invariant.2 in
    needed_before _ c.loop-success.count c.args.self.now c.loop-success.self c.work_unit.new.self
    c.loop-success.invariant.1.current_len c.loop-success.invariant.5 (λ on. (c.work_unit.ensures.units.stands on).len)
    (done.one.2 c.if-not-success.true).1
