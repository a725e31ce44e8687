use Rattle.bucket_slots.proofs.Words.{bucket_with_value, is_live, refl, slot_in, true, ◌≡◌}
use Rattle.bucket_slots.specs.ArrayView.{bucket_at}
use Rattle.bucket_slots.specs.Evicting.{slots_touched}
use Rattle.bucket_slots.proofs.Digests.{IsDigest-touched, IsDigest-valued, kept_at}
use Rattle.bucket_slots.proofs.bucket_array.BucketArray.touch_entry_mut.Goals as goal

pub invariant_of-self-lent : goal.invariant_of-self-lent
invariant_of-self-lent g c w =
    let b = bucket_at c.self.inside.buckets c.args.index in
    let left = slots_touched g.L.LruList.KEEPS b c.args.at.now in
    let alive : is_live (slot_in left c.args.at.now) ≡ true = rw c.self.view_is c.requires.live_slot in
    rw (c.update_lru_tail.ensures, c.get_mut-bucket.ensures.bucket) (kept_at _ c.self.inside.buckets c.args.index _ _ c.self.invariant
    (rw c.self.view_is c.requires.within) (bucket_with_value left c.args.at.now w)
    (λ digest is. IsDigest-valued digest left c.args.at.now w alive (IsDigest-touched digest g.L.LruList.KEEPS b c.args.at.now is)))

pub returns : goal.returns
returns g c = (
  (refl, λ w. rw (c.update_lru_tail.ensures, c.get_mut-bucket.ensures.bucket, c.self.view_is) refl),
  record {
    writes_back = tt;
    pair = rw (c.update_lru_tail.ensures, c.get_mut-bucket.ensures.bucket, c.self.view_is) at c.entry_mut-2.ensures.pair;
  },
)
