use Rattle.bucket_table.proofs.Words.{arith}
use Rattle.bucket_table.proofs.Map.CountSteps.{none_kept, some_kept}
use Rattle.bucket_table.proofs.Views.Keeping.{keeps_both}
use Rattle.bucket_table.proofs.Rehash.UnitRuns.{units_as}
use Rattle.bucket_table.proofs.arrays.Arrays.count_on.Goals as goal

pub returns-then-count-ne0-clause-arrays : goal.returns-then-count-ne0-clause-arrays
returns-then-count-ne0-clause-arrays g c = record {
  between = c.work_unit.new.self;
  kept = c.work_unit.ensures.kept;
  alone = λ none. (c.work_unit.ensures.alone none).1;
  resized = some_kept c.args.self.now c.work_unit.new.self c.args.count c.work_unit.ensures.kept.keeps c.requires.count c.if-count-ne0.true;
}

pub drop_if_empty-requires : goal.drop_if_empty-requires
drop_if_empty-requires g c = (
  omega arith,
  none_kept c.args.self.now c.work_unit.new.self c.args.count c.work_unit.ensures.kept.keeps c.requires.count c.if-count-ne0.false,
)

pub returns-clause-placed : goal.returns-clause-placed
returns-clause-placed g c = c.drop_if_empty.ensures.placed (g.H.KeyHash.hash_of c.args.hasher.now) c.work_unit.ensures.placed

pub returns-clause-kept : goal.returns-clause-kept
returns-clause-kept g c = keeps_both c.args.self.now c.work_unit.new.self c.drop_if_empty.new.self c.work_unit.ensures.kept.keeps
    c.drop_if_empty.ensures.kept

pub returns-clause-units : goal.returns-clause-units
returns-clause-units g c =
    units_as 1 c.args.self.now c.work_unit.new.self c.drop_if_empty.new.self c.work_unit.ensures.units c.drop_if_empty.ensures.linked
    c.drop_if_empty.ensures.tickets
