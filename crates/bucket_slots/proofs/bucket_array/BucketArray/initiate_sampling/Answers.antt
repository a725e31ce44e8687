use Rattle.bucket_slots.proofs.Words.{IsLargeSample, ap, length, subst, ℕ}
use Rattle.bucket_slots.proofs.Sampled.{mask_starts_sampling}
use Rattle.bucket_slots.proofs.bucket_array.BucketArray.initiate_sampling.Goals as goal

pub returns : goal.returns
returns g c =
    let size = c.self.inside.sample_size in
    let sampled = subst (λ (n : ℕ). IsLargeSample n size) (ap length c.self.view_is) c.self.invariant.0.sampled in
    mask_starts_sampling c.args.hash (length c.args.self.now) size sampled
