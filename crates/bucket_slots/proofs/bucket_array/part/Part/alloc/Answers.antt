use Rattle.bucket_slots.proofs.Words.{ap, arith, empty_bucket, false, replicate, vec_capacity, with_unmade, ◌-◌, ◌∙◌, ◌≡◌}
use Rattle.bucket_slots.proofs.bucket_array.part.Part.alloc.Goals as goal

pub returns : goal.returns
returns g c =
    let made = c.in-Ok.made in
    let all : vec_capacity made - 0 ≡ c.args.len = omega (arith, c.in-Ok.ensures.exact) in
    ap (λ items. with_unmade items (vec_capacity made) false) c.in-Ok.ensures.items ∙ ap (λ n. replicate n empty_bucket) all
