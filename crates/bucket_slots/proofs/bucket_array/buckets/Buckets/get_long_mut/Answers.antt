use Rattle.bucket_slots.proofs.Words.{[], ap, arith, empty_bucket, get_or, get_or_read, length, refl, ◌<◌, ◌∙◌}
use Rattle.bucket_slots.proofs.ArrayParts.{is_long, long_place}
use Rattle.bucket_slots.proofs.bucket_array.buckets.Buckets.get_long_mut.Goals as goal

pub index_mut-held-requires : goal.index_mut-held-requires
index_mut-held-requires g c =
    let at = c.place_of-part.ensures in
    let many = is_long c.self.invariant.0 c.self.view_is c.requires.long in
    let place = long_place _ _ _ _ c.self.invariant.0 many _ _ _ _ c.self.view_is c.requires.within at.part at.offset in
    omega (arith, c.self.inside.parts.ok.0, place.within)

pub prove-unreachable-requires : goal.prove-unreachable-requires
prove-unreachable-requires g c =
    let at = c.place_of-part.ensures in
    let many = is_long c.self.invariant.0 c.self.view_is c.requires.long in
    let place = long_place _ _ _ _ c.self.invariant.0 many _ _ _ _ c.self.view_is c.requires.within at.part at.offset in
    let here = get_or_read c.self.inside.parts.items c.place_of-part.result.0 c.index_mut-held.result.now place.within
    c.index_mut-held.ensures.value [] in
    let inside : c.place_of-part.result.1 < length c.index_mut-held.result.now = rw here place.inside in
    omega (arith, c.len.ensures)

pub invariant_of-self-lent : goal.invariant_of-self-lent
invariant_of-self-lent g c w =
    let at = c.place_of-part.ensures in
    let many = is_long c.self.invariant.0 c.self.view_is c.requires.long in
    let place = long_place _ _ _ _ c.self.invariant.0 many _ _ _ _ c.self.view_is c.requires.within at.part at.offset in
    let here = get_or_read c.self.inside.parts.items c.place_of-part.result.0 c.index_mut-held.result.now place.within
    c.index_mut-held.ensures.value [] in
    rw here (place.kept w, c.self.invariant.1)

pub returns : goal.returns
returns g c =
    let at = c.place_of-part.ensures in
    let many = is_long c.self.invariant.0 c.self.view_is c.requires.long in
    let place = long_place _ _ _ _ c.self.invariant.0 many _ _ _ _ c.self.view_is c.requires.within at.part at.offset in
    let here = get_or_read c.self.inside.parts.items c.place_of-part.result.0 c.index_mut-held.result.now place.within
    c.index_mut-held.ensures.value [] in (
      (refl, λ w. rw here (place.written w)),
      record {
        writes_back = tt;
        bucket = c.bucket_mut.ensures.bucket ∙ ap (λ part. get_or part c.place_of-part.result.1 empty_bucket) here ∙ place.read;
      },
    )
