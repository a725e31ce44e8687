use Rattle.bucket_table.proofs.Walking.WalkCounts.{keeps_emptied}
use Rattle.bucket_table.proofs.script.walks.empties_keep.Goals as goal

pub returns : goal.returns
returns g c = keeps_emptied g.row.TYPE (λ e. g.G.Generation.epoch_of e.generation.now) (λ e. e.count)
