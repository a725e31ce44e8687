use Rattle.bucket_slots.proofs.Words.{ap, arith, length, refl, set, vec_capacity, ◌<◌, ◌∙◌}
use Rattle.bucket_slots.proofs.ArrayParts.{part_read, set-part}
use Rattle.bucket_slots.proofs.Digests.{made_there}
use Rattle.bucket_slots.proofs.bucket_array.part.Part.made_bucket_mut.Goals as goal

pub index_mut-requires : goal.index_mut-requires
index_mut-requires g c =
    let made = c.self.inside.made in
    let (pos, alive) = c.requires.live_slot in
    omega (arith, made.ok.0, made_there made.items c.args.self.now _ c.args.offset _ pos c.self.view_is c.requires.within alive)

pub invariant_of-self-lent : goal.invariant_of-self-lent
invariant_of-self-lent g c = λ _. tt

pub returns : goal.returns
returns g c =
    let made = c.self.inside.made in
    let (pos, alive) = c.requires.live_slot in
    let there : c.args.offset < length made.items =
    made_there made.items c.args.self.now _ c.args.offset _ pos c.self.view_is c.requires.within alive in (
      (
        refl,
        λ w. set-part made.items (vec_capacity made) c.args.offset c.self.inside.released w there
            ∙ ap (λ buckets. set buckets c.args.offset w) c.self.view_is,
      ),
      record {
        writes_back = tt;
        bucket = part_read made.items _ _ _ _ _ c.self.view_is there c.index_mut.ensures.value;
      },
    )
