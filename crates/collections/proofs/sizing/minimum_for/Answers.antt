use Rattle.collections.proofs.Capacity.{minimum_none}
use Rattle.collections.proofs.sizing.minimum_for.Goals as goal

pub returns-then-pairs-eq0 : goal.returns-then-pairs-eq0
returns-then-pairs-eq0 c = minimum_none c.args.pairs c.if-pairs-eq0.true
