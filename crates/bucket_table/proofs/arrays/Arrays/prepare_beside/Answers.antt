use Rattle.bucket_table.proofs.Views.Keeping.{kept_both}
use Rattle.bucket_table.proofs.Map.Preparing.{sources_worked}
use Rattle.bucket_table.proofs.Rehash.UnitRuns.{units_prepared}
use Rattle.bucket_table.proofs.Rehash.NeedingMemory.{sources_need, needed_before}
use Rattle.bucket_table.proofs.arrays.Arrays.prepare_beside.Goals as goal

pub returns-then-relocate_range-clause-kept : goal.returns-then-relocate_range-clause-kept
returns-then-relocate_range-clause-kept g c = kept_both _ _ _ c.work_unit.ensures.kept c.relocate_range.ensures.worked.0.kept

pub returns-then-relocate_range-clause-ready : goal.returns-then-relocate_range-clause-ready
returns-then-relocate_range-clause-ready g c =
    sources_worked _ _ c.len-to.result c.old_len-from.result c.args.index _ c.work_unit.new.self _ c.relocate_range.ensures.worked
    c.if-relocate_range.true
    c.len-to.ensures.value c.old_len-from.ensures.value c.from_index_to_range-start.ensures.range

pub returns-else-relocate_range-clause-kept : goal.returns-else-relocate_range-clause-kept
returns-else-relocate_range-clause-kept g c = kept_both _ _ _ c.work_unit.ensures.kept c.relocate_range.ensures.worked.0.kept

pub returns-then-relocate_range-clause-units : goal.returns-then-relocate_range-clause-units
returns-then-relocate_range-clause-units g c =
    let e = c.relocate_range.ensures in
    units_prepared _ _ c.len-to.result c.old_len-from.result c.args.index c.args.self.now c.work_unit.new.self _
    c.work_unit.ensures.kept.current_len c.work_unit.ensures.units e.worked.0 e.spends e.only c.len-to.ensures.value
    c.old_len-from.ensures.value c.from_index_to_range-start.ensures.range

pub returns-else-relocate_range-clause-units : goal.returns-else-relocate_range-clause-units
returns-else-relocate_range-clause-units g c =
    let e = c.relocate_range.ensures in
    units_prepared _ _ c.len-to.result c.old_len-from.result c.args.index c.args.self.now c.work_unit.new.self _
    c.work_unit.ensures.kept.current_len c.work_unit.ensures.units e.worked.0 e.spends e.only c.len-to.ensures.value
    c.old_len-from.ensures.value c.from_index_to_range-start.ensures.range

pub returns-else-relocate_range-clause-wanted : goal.returns-else-relocate_range-clause-wanted
returns-else-relocate_range-clause-wanted g c =
    needed_before _ 1 c.args.self.now c.work_unit.new.self _ c.work_unit.ensures.kept.current_len c.work_unit.ensures.units
    (λ on. c.relocate_range.ensures.worked.0.killed.len)
    (sources_need _ _ c.len-to.result c.old_len-from.result c.args.index c.work_unit.new.self _ c.relocate_range.ensures.worked.0
    c.len-to.ensures.value c.old_len-from.ensures.value c.from_index_to_range-start.ensures.range
    (c.relocate_range.ensures.wanted c.if-relocate_range.false))
