use Rattle.bucket_table.proofs.Words.{arith, refl}
use Rattle.bucket_table.proofs.Map.Cloning.{all_buckets_cloned, no_bucket_cloned, one_bucket_cloned}
use Rattle.bucket_table.proofs.arrays.copy.clone_buckets.Goals as goal

pub buckets-init : goal.buckets-init
buckets-init g c = no_bucket_cloned _ _ _ _ c.requires.empty

pub buckets-preserved : goal.buckets-preserved
buckets-preserved g c =
    rw c.refresh.ensures (one_bucket_cloned _ _ _ c.buckets.index _ _ c.buckets.invariant
    (omega (arith, c.buckets-test.true, c.len-index-end.ensures.value)) (c.if-not-clone_bucket.ensures refl))

pub returns : goal.returns
returns g c _ =
    all_buckets_cloned _ _ _ c.buckets.index _ c.buckets.invariant (omega (arith, c.buckets-test.false, c.len-index-end.ensures.value))
