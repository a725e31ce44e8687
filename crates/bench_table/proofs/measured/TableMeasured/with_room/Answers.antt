use Rattle.std.proofs.Common.{arith, rules, refl}
use Rattle.bench_table.proofs.measured.TableMeasured.with_room.Goals as goal

pub new-requires : goal.new-requires
new-requires c = (search rules, ((63, refl), (search rules, omega (arith, c.min-minimum.ensures))))
