use Rattle.bucket_table.proofs.Views.Keeping.{kept_none}
use Rattle.bucket_table.proofs.arrays.Arrays.prepare_at.Goals as goal

pub returns-then-not-has_old-clause-kept : goal.returns-then-not-has_old-clause-kept
returns-then-not-has_old-clause-kept g c = kept_none c.args.self.now
