use Rattle.bucket_table.proofs.Words.{length, pairs_ahead}
use denote.Param.Always.{always_mut}
use Rattle.bucket_table.specs.Walking.Retains.{IsLeftOf}
use Rattle.bucket_table.proofs.Walking.RetainingEach.{IsAsking}
use Rattle.bucket_table.proofs.retain.retain_each_in.Given as goal

-- the closure can be called again, and was called with each pair that is no longer ahead, and the bucket is what is left after that
abbrev pub invariant-own : goal.invariant-own
invariant-own g l =
    always_mut g.F.FnMut l.keep
    × IsAsking (λ state own before answer after last. goal.F-step g state own before answer after last)
    l.fn.keep l.fn.bucket l.keep l.bucket l.at
    × IsLeftOf g.row.TYPE (g.G.Generation.epoch_of l.generation) l.fn.bucket l.bucket

abbrev pub invariant-pairs : goal.invariant-pairs
invariant-pairs g l =
    always_mut g.F.FnMut l.keep
    × IsAsking (λ state own before answer after last. goal.F-step g state own before answer after last)
    l.fn.keep l.fn.bucket l.keep l.bucket l.at
    × IsLeftOf g.row.TYPE (g.G.Generation.epoch_of l.generation) l.fn.bucket l.bucket

abbrev pub decreases-own : goal.decreases-own
decreases-own g l = length (pairs_ahead l.bucket l.at)

abbrev pub decreases-pairs : goal.decreases-pairs
decreases-pairs g l = length (pairs_ahead l.bucket l.at)
