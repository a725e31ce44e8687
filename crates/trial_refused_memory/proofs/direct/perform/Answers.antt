use Rattle.std.proofs.Common.{rules, refl}
use Rattle.trial_refused_memory.proofs.direct.perform.Goals as goal

pub new-table-requires : goal.new-table-requires
new-table-requires c = (search rules, ((63, refl), search rules))
