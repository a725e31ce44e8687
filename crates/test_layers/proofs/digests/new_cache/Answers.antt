use Rattle.std.proofs.Common.{arith, rules, refl}
use Rattle.test_layers.proofs.digests.new_cache.Goals as goal

pub new-requires : goal.new-requires
new-requires c = (search rules, ((63, refl), (search rules, omega (arith, c.requires))))
