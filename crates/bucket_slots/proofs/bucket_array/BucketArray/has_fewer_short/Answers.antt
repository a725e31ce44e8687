use Rattle.bucket_slots.proofs.Words.{rules, ◌<◌}
use Rattle.bucket_slots.proofs.bucket_array.BucketArray.has_fewer_short.Goals as goal

pub returns : goal.returns
returns g c = λ yes.
    let few : c.len.result < c.args.len = search rules in
    rw (← c.self.view_is, ← c.get.ensures, ← c.len.ensures) few
