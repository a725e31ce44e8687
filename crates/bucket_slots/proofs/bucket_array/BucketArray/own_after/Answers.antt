use Rattle.bucket_slots.specs.ArrayView.{bucket_at}
use Rattle.bucket_slots.proofs.OwnWalks.{all_after}
use Rattle.bucket_slots.proofs.bucket_array.BucketArray.own_after.Goals as goal

pub returns-in-Some : goal.returns-in-Some
returns-in-Some g c =
    all_after (bucket_at c.args.self.now c.args.index) _ c.args.at.now _ c.in-Some.ensures c.own_after.ensures
