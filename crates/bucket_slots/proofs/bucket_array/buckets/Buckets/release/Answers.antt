use Rattle.bucket_slots.proofs.Words.{[], ap, arith, get_or_read, set, set-get_or, ◌∙◌}
use Rattle.bucket_slots.proofs.ArrayParts.{bits_long, long_place}
use Rattle.bucket_slots.proofs.bucket_array.buckets.Buckets.release.Goals as goal

pub index_mut-requires : goal.index_mut-requires
index_mut-requires g c =
    let at = c.place_of-part.ensures in
    let many = bits_long c.self.invariant.0 (omega (arith, c.if-self-le-LEAST_PART_BITS.false)) in
    let place = long_place _ _ _ _ c.self.invariant.0 many _ _ _ _ c.self.view_is c.requires at.part at.offset in
    omega (arith, c.self.inside.parts.ok.0, place.within)

pub invariant_of-self : goal.invariant_of-self
invariant_of-self g c =
    let at = c.place_of-part.ensures in
    let many = bits_long c.self.invariant.0 (omega (arith, c.if-self-le-LEAST_PART_BITS.false)) in
    let place = long_place _ _ _ _ c.self.invariant.0 many _ _ _ _ c.self.view_is c.requires at.part at.offset in
    let here = get_or_read c.self.inside.parts.items c.place_of-part.result.0 c.index_mut.result.now place.within
    c.index_mut.ensures.value []
    in
    rw (ap (set c.self.inside.parts.items c.place_of-part.result.0) (c.release.ensures ∙ here)
    ∙ set-get_or c.self.inside.parts.items c.place_of-part.result.0 []) c.self.invariant
