use Rattle.bucket_slots.proofs.Words.{ap, refl, set, ◌∙◌}
use Rattle.bucket_slots.proofs.Digests.{stale_at}
use Rattle.bucket_slots.specs.ArrayView.{bucket_at}
use Rattle.bucket_slots.proofs.bucket_array.BucketArray.bucket_mut.Goals as goal

pub invariant_of-self-lent : goal.invariant_of-self-lent
invariant_of-self-lent g c w =
    stale_at _ _ c.self.inside.buckets c.args.index _ _ c.self.invariant (rw c.self.view_is c.requires) c.lose.ensures.others
    c.lose.ensures.stale w

pub returns : goal.returns
returns g c = (
  (refl, λ w. ap (λ buckets. set buckets c.args.index w) c.self.view_is),
  record { writes_back = tt; bucket = c.get_mut.ensures.bucket ∙ ap (λ buckets. bucket_at buckets c.args.index) c.self.view_is },
)
