use Rattle.bucket_slots.proofs.Words.{refl}
use Rattle.bucket_slots.specs.ArrayView.{bucket_at}
use Rattle.bucket_slots.specs.Evicting.{slots_touched}
use Rattle.bucket_slots.proofs.Digests.{IsDigest-touched, kept_at}
use Rattle.bucket_slots.proofs.bucket_array.BucketArray.touch.Goals as goal

pub invariant_of-self : goal.invariant_of-self
invariant_of-self g c =
    let b = bucket_at c.self.inside.buckets c.args.index in
    rw (c.update_lru_tail.ensures, c.get_mut.ensures.bucket) (kept_at _ c.self.inside.buckets c.args.index _ _ c.self.invariant
    (rw c.self.view_is c.requires.within) (slots_touched g.L.LruList.KEEPS b c.args.at.now)
    (λ digest is. IsDigest-touched digest g.L.LruList.KEEPS b c.args.at.now is))

pub returns : goal.returns
returns g c = rw (c.update_lru_tail.ensures, c.get_mut.ensures.bucket, c.self.view_is) refl
