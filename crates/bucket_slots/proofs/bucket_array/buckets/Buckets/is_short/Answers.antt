use Rattle.bucket_slots.proofs.Words.{ap, length, rules, ◌∙◌}
use Rattle.bucket_slots.proofs.ArrayParts.{len_of}
use Rattle.bucket_slots.proofs.bucket_array.buckets.Buckets.is_short.Goals as goal

pub returns : goal.returns
returns g c =
    let is = len_of c.self.invariant.0 ∙ ap length c.self.view_is in
    rw (← is) (search rules)
