use Rattle.bucket_table.proofs.Words.{arith, ◌*◌}
use Rattle.std.proofs.Common.{mul_comm}
use Rattle.bucket_table.proofs.Rehash.Killing.{only_unit}
use Rattle.bucket_table.proofs.Rehash.UnitSteps.{unit_worked}
use Rattle.bucket_table.proofs.Rehash.NeedingMemory.{range_longer}
use Rattle.bucket_table.proofs.arrays.Arrays.relocate_unit.Goals as goal

pub returns-clause-worked : goal.returns-clause-worked
returns-clause-worked g c = rw (c.release_old.ensures, c.refresh_unit.ensures)
    (unit_worked (c.args.unit * 64) c.min-end.result c.args.unit _ _ _ c.relocate_range-success.ensures.worked (mul_comm c.args.unit 64)
    (λ i high within. omega (arith, c.min-end.ensures, c.old_len-len.ensures.value)))

pub returns-clause-placed : goal.returns-clause-placed
returns-clause-placed g c = rw (c.release_old.ensures, c.refresh_unit.ensures) c.relocate_range-success.ensures.placed

pub returns-clause-only : goal.returns-clause-only
returns-clause-only g c = rw (c.release_old.ensures, c.refresh_unit.ensures)
    (only_unit (c.args.unit * 64) c.min-end.result c.args.unit _ _ c.relocate_range-success.ensures.only (mul_comm c.args.unit 64)
    (omega (arith, c.min-end.ensures)))

pub returns-clause-wanted : goal.returns-clause-wanted
returns-clause-wanted g c = λ refused. rw (c.release_old.ensures, c.refresh_unit.ensures)
    (range_longer (c.args.unit * 64) c.min-end.result _ _ _ _ (mul_comm c.args.unit 64) (omega (arith, c.min-end.ensures))
    (c.relocate_range-success.ensures.wanted refused))
