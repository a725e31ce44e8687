use Rattle.bucket_slots.proofs.Words.{[], ap, arith, get_or_read, length, set, set-get_or, ◌<◌, ◌∙◌}
use Rattle.bucket_slots.proofs.ArrayParts.{long_place}
use Rattle.bucket_slots.proofs.bucket_array.buckets.Buckets.release_into.Goals as goal

pub index_mut-requires : goal.index_mut-requires
index_mut-requires g c =
    let at = c.place_of-part.ensures in
    let many = c.if-self-le-SHORT_LEN.false in
    let place = long_place _ _ _ _ c.self.invariant.0 many _ _ _ _ c.self.view_is c.requires at.part at.offset in
    omega (arith, c.self.inside.parts.ok.0, place.within)

pub invariant_of-self : goal.invariant_of-self
invariant_of-self g c =
    let at = c.place_of-part.ensures in
    let many = c.if-self-le-SHORT_LEN.false in
    let place = long_place _ _ _ _ c.self.invariant.0 many _ _ _ _ c.self.view_is c.requires at.part at.offset in
    let here = get_or_read c.self.inside.parts.items c.place_of-part.result.0 c.index_mut.result.now place.within
    c.index_mut.ensures.value []
    in
    rw (ap (set c.self.inside.parts.items c.place_of-part.result.0) (c.release_to.ensures.kept ∙ here)
    ∙ set-get_or c.self.inside.parts.items c.place_of-part.result.0 []) c.self.invariant

pub invariant_of-to : goal.invariant_of-to
invariant_of-to g c =
    let there : c.in-Some.fresh < length c.to.inside.parts.items = omega (arith, c.to.inside.parts.ok.0, c.in-Some.ensures) in
    let here = get_or_read c.to.inside.parts.items c.in-Some.fresh c.index_mut-2.result.now there c.index_mut-2.ensures.value [] in
    rw (ap (set c.to.inside.parts.items c.in-Some.fresh) (c.release_to.ensures.fresh ∙ here)
    ∙ set-get_or c.to.inside.parts.items c.in-Some.fresh []) c.to.invariant

pub overflow_add-part : goal.overflow_add-part
overflow_add-part g c =
    let at = c.place_of-part.ensures in
    let many = c.if-self-le-SHORT_LEN.false in
    let place = long_place _ _ _ _ c.self.invariant.0 many _ _ _ _ c.self.view_is c.requires at.part at.offset in
    omega (arith, c.self.inside.parts.ok.0, c.self.inside.parts.ok.1, place.within)

pub nonzero_div-next : goal.nonzero_div-next
nonzero_div-next g c =
    let at = c.place_of-part.ensures in
    let many = c.if-self-le-SHORT_LEN.false in
    let place = long_place _ _ _ _ c.self.invariant.0 many _ _ _ _ c.self.view_is c.requires at.part at.offset in
    omega (arith, c.self.inside.parts.ok.0, place.within)
