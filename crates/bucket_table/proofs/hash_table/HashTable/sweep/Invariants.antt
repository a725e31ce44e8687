use Rattle.bucket_table.proofs.Words.{length}
use Rattle.bucket_table.specs.Walking.Retains.{AnswersBy}
use Rattle.bucket_table.proofs.Walking.SweepSteps.{SweepStands, hashes_left}
use Rattle.bucket_table.proofs.hash_table.HashTable.sweep.Given as goal

abbrev pub invariant-loop-place : goal.invariant-loop-place
invariant-loop-place g l =
    SweepStands (AnswersBy (λ key value answer. goal.F-post g l.keep key value answer)) g.H.KeyHash.hash_of g.row.TYPE
    (g.G.Generation.epoch_of l.generation) l.fn.self l.self l.count l.place

abbrev pub decreases-loop-place : goal.decreases-loop-place
decreases-loop-place g l = hashes_left (length l.self.arrays.current) l.place
