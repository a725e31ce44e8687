use Rattle.bucket_table.proofs.Words.{length, pairs_ahead}
use Rattle.bucket_table.proofs.Moves.MovingPairs.{IsMoving}
use Rattle.bucket_table.proofs.arrays.relocate.move_pairs.Given as goal

abbrev pub invariant-own : goal.invariant-own
invariant-own g l =
    IsMoving (g.H.KeyHash.hash_of l.hasher) l.targets.0 l.targets.1 l.fn.source l.fn.current l.source l.current l.landings l.at

abbrev pub invariant-pairs : goal.invariant-pairs
invariant-pairs g l =
    IsMoving (g.H.KeyHash.hash_of l.hasher) l.targets.0 l.targets.1 l.fn.source l.fn.current l.source l.current l.landings l.at

abbrev pub decreases-own : goal.decreases-own
decreases-own g l = length (pairs_ahead l.source l.at)

abbrev pub decreases-pairs : goal.decreases-pairs
decreases-pairs g l = length (pairs_ahead l.source l.at)
