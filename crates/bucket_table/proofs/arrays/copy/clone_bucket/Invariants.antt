use Rattle.bucket_table.proofs.Words.{length, pairs_ahead, ◌≢◌}
use Rattle.bucket_slots.specs.OwnWalks.{AreOwnAfter}
use Rattle.bucket_table.proofs.Map.Cloning.{IsCloning}
use Rattle.bucket_table.proofs.arrays.copy.clone_bucket.Given as goal

-- the pairs passed have been made and inserted, and the bitmap is that of the live own slots after the pointer, or 0
abbrev pub invariant-pairs : goal.invariant-pairs
invariant-pairs g l =
    IsCloning (g.H.KeyHash.hash_of l.hasher) (λ key value made. goal.F-post g l.make key value made) (length l.from) l.index l.source l.at
    l.target
    × (l.left ≢ 0 → AreOwnAfter l.source l.at l.left)

abbrev pub decreases-pairs : goal.decreases-pairs
decreases-pairs g l = length (pairs_ahead l.source l.at)
