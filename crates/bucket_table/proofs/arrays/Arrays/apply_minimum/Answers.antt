use Rattle.bucket_table.proofs.Resize.Settling.{placed_with, resizes}
use Rattle.bucket_table.proofs.arrays.Arrays.apply_minimum.Goals as goal

pub returns-clause-settled : goal.returns-clause-settled
returns-clause-settled g c = rw (← c.self.view_is) (resizes _ _ c.try_resize.result c.try_resize.ensures.resized)

pub returns-clause-placed : goal.returns-clause-placed
returns-clause-placed g c = λ hash law. c.try_resize.ensures.placed hash (placed_with hash _ c.args.minimum (rw (← c.self.view_is) at law))
