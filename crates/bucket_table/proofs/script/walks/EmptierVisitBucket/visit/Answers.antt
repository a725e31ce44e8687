use Rattle.bucket_table.proofs.Words.{rules}
use Rattle.bucket_table.proofs.Walking.Leaving.{gone_changed}
use Rattle.bucket_table.proofs.Walking.WalkCounts.{empties_bucket}
use Rattle.bucket_table.proofs.script.walks.EmptierVisitBucket.visit.Goals as goal

pub returns-clause-visited : goal.returns-clause-visited
returns-clause-visited g c =
    let left = c.retain_in-taken.ensures.left in
    empties_bucket _ c.args.bucket.now c.retain_in-taken.new.bucket _ _ _ c.retain_in-taken.result _ _ _
    (λ key value answer k. search rules) left (gone_changed g.row.TYPE _ left.0 _ _ left.1).1
    c.retain_in-taken.ensures.retained (search rules) (search rules)
