use Rattle.bucket_slots.proofs.Words.{ap, arith, empty_bucket, get_or, get_or_read, length, refl, set, sym, vec_capacity, ◌<◌, ◌∙◌}
use Rattle.bucket_slots.proofs.ArrayParts.{get_or-made, length-part, set-part}
use Rattle.bucket_slots.proofs.bucket_array.part.Part.bucket_mut.Goals as goal

pub returns : goal.returns
returns g c =
    let made = c.make_to.new.made in
    let at = c.args.offset in
    let same = c.make_to.ensures.same ∙ c.self.view_is in
    let there : at < length made.items = omega (arith, made.ok.0, c.make_to.ensures.made) in (
      (refl, λ w. set-part made.items (vec_capacity made) at c.self.inside.released w there ∙ ap (λ buckets. set buckets at w) same),
      record {
        writes_back = tt;
        bucket = get_or_read made.items at c.index_mut.result.now there c.index_mut.ensures.value empty_bucket
            ∙ sym (get_or-made made.items (vec_capacity made) at c.self.inside.released there)
            ∙ ap (λ buckets. get_or buckets at empty_bucket) same;
      },
    )

pub invariant_of-self-lent : goal.invariant_of-self-lent
invariant_of-self-lent g c = λ _. tt

pub index_mut-requires : goal.index_mut-requires
index_mut-requires g c = omega (arith, c.make_to.ensures.made)

pub overflow_add-offset : goal.overflow_add-offset
overflow_add-offset g c =
    let made = c.self.inside.made in
    let long = length-part made.items c.args.self.now _ _ c.self.view_is in
    record { fits = omega (arith, long, c.requires.within, made.ok.0, made.ok.1, made.small) }
