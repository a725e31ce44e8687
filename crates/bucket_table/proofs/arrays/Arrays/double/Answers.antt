use Rattle.bucket_table.proofs.Resize.Following.{pushed_keeps, pushed_placed}
use Rattle.bucket_table.proofs.arrays.Arrays.double.Goals as goal

pub returns-in-Ok-clause-kept : goal.returns-in-Ok-clause-kept
returns-in-Ok-clause-kept g c = pushed_keeps _ c.args.self.now c.remake_array.new.self c.in-Ok.ensures.pushed

pub returns-in-Ok-clause-placed : goal.returns-in-Ok-clause-placed
returns-in-Ok-clause-placed g c = λ hash_of law. pushed_placed hash_of _ c.args.self.now c.remake_array.new.self c.in-Ok.ensures.pushed law
