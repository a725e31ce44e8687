use Rattle.bucket_slots.proofs.Words.{slots_without, sym, ◌∙◌}
use Rattle.bucket_slots.specs.ArrayView.{bucket_at}
use Rattle.bucket_slots.specs.Layout.Digests.{digest_at}
use Rattle.bucket_slots.proofs.Digests.{IsDigest-freed, live_counted, set_at, without_own}
use Rattle.bucket_slots.proofs.bucket_array.BucketArray.take_by.Goals as goal

pub invariant_of-self : goal.invariant_of-self
invariant_of-self g c =
    let at = c.in-Some-find_among.at in
    let own = c.in-Some-find_among.ensures.own in
    let b = bucket_at c.self.inside.buckets c.args.index in
    let bits = rw c.pos-pos.ensures at c.free-left.ensures.live in
    let without = without_own b at own.0 in
    let is = c.self.invariant.1 c.args.index c.in-Some.ensures.said in
    rw c.remove-pair.ensures.slots (set_at _ _ c.self.inside.buckets c.args.index _ _ c.self.invariant (rw c.self.view_is c.requires.within)
    c.free-left.ensures.others (slots_without b at)
    (λ said. (is.0, IsDigest-freed _ _ b (slots_without b at) _ is.1 own.1 bits c.free-left.ensures.bytes without.0 without.1)))

pub returns-clause-taken : goal.returns-clause-taken
returns-clause-taken g c =
    let at = c.in-Some-find_among.at in
    let own = c.in-Some-find_among.ensures.own in
    let b = bucket_at c.self.inside.buckets c.args.index in
    let bits = rw c.pos-pos.ensures at c.free-left.ensures.live in
    let without = without_own b at own.0 in
    let is = c.self.invariant.1 c.args.index c.in-Some.ensures.said in
    let left = IsDigest-freed _ (digest_at c.free-left.new.self c.args.index) b (slots_without b at) _ is.1 own.1 bits
    c.free-left.ensures.bytes
    without.0 without.1 in
    rw (← c.self.view_is) (record {
      at = at;
      found = sym c.in-Some-find_among.ensures.place;
      taken = c.remove-pair.ensures.pair;
      changed = c.remove-pair.ensures.slots;
      left_is = c.free-left.ensures.left ∙ live_counted _ (slots_without b at) left;
    })
