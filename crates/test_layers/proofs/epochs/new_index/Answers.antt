use Rattle.std.proofs.Common.{rules, refl}
use Rattle.test_layers.proofs.epochs.new_index.Goals as goal

pub new-requires : goal.new-requires
new-requires c = (search rules, ((6, refl), search rules))
