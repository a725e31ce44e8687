use Rattle.bucket_slots.proofs.Words.{arith}
use Rattle.bucket_slots.proofs.ArrayParts.{length-part}
use Rattle.bucket_slots.proofs.bucket_array.part.Part.len.Goals as goal

pub returns : goal.returns
returns g c =
    let made = c.self.inside.made in
    omega (arith, length-part made.items c.args.self.now _ _ c.self.view_is, made.ok.0, made.ok.1, c.capacity.ensures)
