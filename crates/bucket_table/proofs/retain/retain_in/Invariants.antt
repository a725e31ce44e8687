use Rattle.bucket_table.proofs.Words.{length, pairs_ahead}
use Rattle.bucket_table.specs.Walking.Retains.{AnswersBy, IsLeftOf}
use Rattle.bucket_table.proofs.Walking.Retaining.{IsRetaining}
use Rattle.bucket_table.proofs.retain.retain_in.Given as goal

abbrev pub invariant-own : goal.invariant-own
invariant-own g l =
    IsRetaining (AnswersBy (λ key value answer. goal.F-post g l.keep key value answer)) l.fn.bucket l.bucket l.at
    × IsLeftOf g.row.TYPE (g.G.Generation.epoch_of l.generation) l.fn.bucket l.bucket

abbrev pub invariant-pairs : goal.invariant-pairs
invariant-pairs g l =
    IsRetaining (AnswersBy (λ key value answer. goal.F-post g l.keep key value answer)) l.fn.bucket l.bucket l.at
    × IsLeftOf g.row.TYPE (g.G.Generation.epoch_of l.generation) l.fn.bucket l.bucket

abbrev pub decreases-own : goal.decreases-own
decreases-own g l = length (pairs_ahead l.bucket l.at)

abbrev pub decreases-pairs : goal.decreases-pairs
decreases-pairs g l = length (pairs_ahead l.bucket l.at)
