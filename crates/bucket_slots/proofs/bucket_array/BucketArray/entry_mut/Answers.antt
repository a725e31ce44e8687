use Rattle.bucket_slots.proofs.Words.{bucket_with_value, is_live, refl, slot_in, true, ◌≡◌}
use Rattle.bucket_slots.specs.ArrayView.{bucket_at}
use Rattle.bucket_slots.proofs.Digests.{IsDigest-valued, kept_at}
use Rattle.bucket_slots.proofs.bucket_array.BucketArray.entry_mut.Goals as goal

pub invariant_of-self-lent : goal.invariant_of-self-lent
invariant_of-self-lent g c w =
    let b = bucket_at c.self.inside.buckets c.args.index in
    let alive : is_live (slot_in b c.args.at.now) ≡ true = rw c.self.view_is c.requires.live_slot in
    rw c.get_mut.ensures.bucket (kept_at _ c.self.inside.buckets c.args.index _ _ c.self.invariant (rw c.self.view_is c.requires.within)
    (bucket_with_value b c.args.at.now w) (λ digest is. IsDigest-valued digest b c.args.at.now w alive is))

pub returns : goal.returns
returns g c = (
  (refl, λ w. rw (c.get_mut.ensures.bucket, c.self.view_is) refl),
  record { writes_back = tt; pair = rw (c.get_mut.ensures.bucket, c.self.view_is) at c.entry_mut.ensures.pair },
)
