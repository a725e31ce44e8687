use Rattle.bucket_slots.proofs.Words.{[], ap, arith, empty_bucket, get_or, get_or_read, length, rules, ◌<◌, ◌∙◌}
use Rattle.bucket_slots.proofs.ArrayParts.{long_parts, long_place}
use Rattle.bucket_slots.proofs.bucket_array.buckets.Buckets.get.Goals as goal

pub index-requires-2 : goal.index-requires-2
index-requires-2 g c =
    let at = c.place_of-part.ensures in
    let many = c.if-self-le-SHORT_LEN.false in
    let place = long_place _ _ _ _ c.self.invariant.0 many _ _ _ _ c.self.view_is c.requires at.part at.offset in
    omega (arith, c.self.inside.parts.ok.0, place.within)

pub bucket-requires : goal.bucket-requires
bucket-requires g c =
    let at = c.place_of-part.ensures in
    let many = c.if-self-le-SHORT_LEN.false in
    let place = long_place _ _ _ _ c.self.invariant.0 many _ _ _ _ c.self.view_is c.requires at.part at.offset in
    let here = get_or_read c.self.inside.parts.items c.place_of-part.result.0 c.index-2.result.now place.within c.index-2.ensures [] in
    let inside : c.place_of-part.result.1 < length c.index-2.result.now = rw here place.inside in
    (search rules, (c.fact_room.ensures, (inside, (long_parts c.self.invariant.0 many).spare_is)))

pub returns : goal.returns
returns g c =
    let at = c.place_of-part.ensures in
    let many = c.if-self-le-SHORT_LEN.false in
    let place = long_place _ _ _ _ c.self.invariant.0 many _ _ _ _ c.self.view_is c.requires at.part at.offset in
    let here = get_or_read c.self.inside.parts.items c.place_of-part.result.0 c.index-2.result.now place.within c.index-2.ensures [] in
    c.bucket.ensures ∙ ap (λ part. get_or part c.place_of-part.result.1 empty_bucket) here ∙ place.read
