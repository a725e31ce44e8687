use Rattle.bucket_table.proofs.Map.Cloning.{AreCloned}
use Rattle.bucket_table.proofs.arrays.copy.clone_buckets.Given as goal

abbrev pub invariant-buckets : goal.invariant-buckets
invariant-buckets g l =
    AreCloned (g.H.KeyHash.hash_of l.hasher) (λ key value made. goal.F-post g l.make key value made) l.from l.index l.to
