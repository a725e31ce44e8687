use Rattle.bucket_table.proofs.Words.{rules}
use Rattle.bucket_table.proofs.Walking.WalkCounts.{tallies_bucket}
use Rattle.bucket_table.proofs.script.walks.TallyReadBucket.read.Goals as goal

pub returns-clause-seen : goal.returns-clause-seen
returns-clause-seen g c = tallies_bucket c.args.bucket.now _ _ c.len.result _ _ c.len.ensures (search rules) (search rules)
