use Rattle.std.proofs.Common.{refl}
use Rattle.collections.proofs.sizing.widest.Goals as goal

pub returns-clause-power : goal.returns-clause-power
returns-clause-power c = (63, refl)
