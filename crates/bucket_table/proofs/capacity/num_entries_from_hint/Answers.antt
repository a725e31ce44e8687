use Rattle.bucket_table.proofs.Words.{arith, common_steps}
use Rattle.bucket_table.proofs.capacity.num_entries_from_hint.Goals as goal

pub returns : goal.returns
returns c = grind (arith, common_steps)
