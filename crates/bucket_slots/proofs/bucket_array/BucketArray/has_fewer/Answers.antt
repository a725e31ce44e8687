use Rattle.bucket_slots.proofs.Words.{ones, rules, ◌<◌}
use Rattle.bucket_slots.specs.ArrayView.{bucket_at}
use Rattle.bucket_slots.specs.Layout.Digests.{digest_at}
use Rattle.bucket_slots.proofs.Digests.{few_live}
use Rattle.bucket_slots.proofs.bucket_array.BucketArray.has_fewer.Goals as goal

pub returns : goal.returns
returns g c = λ yes.
    let few : ones c.live.result < c.args.len = search rules in
    few_live (digest_at c.self.inside.digests c.args.index) (bucket_at c.args.self.now c.args.index) c.args.len
    (λ known. rw c.self.view_is at (c.self.invariant.1 c.args.index known).1) c.requires (rw c.live.ensures at few)
