use Rattle.bucket_slots.proofs.Words.{arith}
use Rattle.bucket_slots.proofs.ArrayParts.{part_read}
use Rattle.bucket_slots.proofs.Digests.{made_there}
use Rattle.bucket_slots.proofs.bucket_array.part.Part.made_bucket.Goals as goal

pub index-requires : goal.index-requires
index-requires g c =
    let made = c.self.inside.made in
    let (pos, alive) = c.requires.live_slot in
    omega (arith, made.ok.0, made_there made.items c.args.self.now _ c.args.offset _ pos c.self.view_is c.requires.within alive)

pub returns : goal.returns
returns g c =
    let made = c.self.inside.made in
    let (pos, alive) = c.requires.live_slot in
    part_read made.items _ _ _ _ _ c.self.view_is
    (made_there made.items c.args.self.now _ c.args.offset _ pos c.self.view_is c.requires.within alive) c.index.ensures
