use Rattle.bucket_slots.proofs.Words.{[], ap, arith, empty_bucket, get_or, get_or_read, length, rules, ◌<◌, ◌∙◌}
use Rattle.bucket_slots.proofs.ArrayParts.{is_long, long_place}
use Rattle.bucket_slots.proofs.bucket_array.buckets.Buckets.made.Goals as goal

pub index-requires : goal.index-requires
index-requires g c =
    let at = c.place_of-part.ensures in
    let many = is_long c.self.invariant.0 c.self.view_is c.requires.long in
    let place = long_place _ _ _ _ c.self.invariant.0 many _ _ _ _ c.self.view_is c.requires.within at.part at.offset in
    omega (arith, c.self.inside.parts.ok.0, place.within)

pub made_bucket-requires : goal.made_bucket-requires
made_bucket-requires g c =
    let at = c.place_of-part.ensures in
    let many = is_long c.self.invariant.0 c.self.view_is c.requires.long in
    let place = long_place _ _ _ _ c.self.invariant.0 many _ _ _ _ c.self.view_is c.requires.within at.part at.offset in
    let here = get_or_read c.self.inside.parts.items c.place_of-part.result.0 c.index.result.now place.within c.index.ensures [] in
    let read = ap (λ part. get_or part c.place_of-part.result.1 empty_bucket) here ∙ place.read in
    let inside : c.place_of-part.result.1 < length c.index.result.now = rw here place.inside in
    (search rules, (c.fact_room.ensures, (inside, rw read c.requires.live_slot)))

pub returns : goal.returns
returns g c =
    let at = c.place_of-part.ensures in
    let many = is_long c.self.invariant.0 c.self.view_is c.requires.long in
    let place = long_place _ _ _ _ c.self.invariant.0 many _ _ _ _ c.self.view_is c.requires.within at.part at.offset in
    let here = get_or_read c.self.inside.parts.items c.place_of-part.result.0 c.index.result.now place.within c.index.ensures [] in
    c.made_bucket.ensures ∙ ap (λ part. get_or part c.place_of-part.result.1 empty_bucket) here ∙ place.read
