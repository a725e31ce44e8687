use Rattle.bucket_table.proofs.Resize.PlanIsOne.{plan_is_one}
use Rattle.bucket_table.proofs.arrays.resize.plans_are_one.Goals as goal

pub returns : goal.returns
returns c = λ counts minimum maximum plan other is other_is. plan_is_one counts minimum maximum plan other is other_is
