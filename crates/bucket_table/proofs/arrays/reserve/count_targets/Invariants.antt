use Rattle.bucket_table.proofs.Words.{length, pairs_ahead}
use Rattle.bucket_table.proofs.Moves.CountingTargets.{IsCounting}
use Rattle.bucket_table.proofs.arrays.reserve.count_targets.Given as goal

abbrev pub invariant-pairs : goal.invariant-pairs
invariant-pairs g l = IsCounting (g.H.KeyHash.hash_of l.hasher) (length l.current) l.start l.counts l.source l.at

abbrev pub decreases-pairs : goal.decreases-pairs
decreases-pairs g l = length (pairs_ahead l.source l.at)
