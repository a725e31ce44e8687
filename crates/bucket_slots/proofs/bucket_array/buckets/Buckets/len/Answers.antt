use Rattle.bucket_slots.proofs.Words.{ap, length, ◌∙◌}
use Rattle.bucket_slots.proofs.ArrayParts.{len_of}
use Rattle.bucket_slots.proofs.bucket_array.buckets.Buckets.len.Goals as goal

pub returns : goal.returns
returns g c = len_of c.self.invariant.0 ∙ ap length c.self.view_is
