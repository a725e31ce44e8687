use Rattle.std.proofs.Common.{rules, refl}
use Rattle.test_layers.proofs.courses.play.Goals as goal

pub new-table-requires : goal.new-table-requires
new-table-requires g c = (search rules, ((63, refl), search rules))
