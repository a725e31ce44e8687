use Rattle.bucket_slots.proofs.Words.{[], Bor, arith, get_or_read, length, refl, ℕ, ◌<◌}
use Rattle.bucket_slots.specs.Layout.ArrayParts.{buckets_of}
use Rattle.bucket_slots.specs.Spreading.{IsShifted}
use Rattle.bucket_slots.proofs.ArrayParts.{long_place}
use Rattle.bucket_slots.proofs.Spreading.{same_buckets_before, spread_in_buckets}
use Rattle.bucket_slots.proofs.bucket_array.buckets.Buckets.spread.Goals as goal

pub index_mut-held-requires : goal.index_mut-held-requires
index_mut-held-requires g c =
    let at = c.place_of-part.ensures in
    let many = c.if-self-le-SHORT_LEN.false in
    let place = long_place _ _ _ _ c.self.invariant.0 many _ _ _ _ c.self.view_is c.requires.within at.part at.offset in
    omega (arith, c.self.inside.parts.ok.0, place.within)

pub prove-unreachable-requires : goal.prove-unreachable-requires
prove-unreachable-requires g c =
    let at = c.place_of-part.ensures in
    let many = c.if-self-le-SHORT_LEN.false in
    let place = long_place _ _ _ _ c.self.invariant.0 many _ _ _ _ c.self.view_is c.requires.within at.part at.offset in
    let here = get_or_read c.self.inside.parts.items c.place_of-part.result.0 c.index_mut-held.result.now place.within
    c.index_mut-held.ensures.value [] in
    let inside : c.place_of-part.result.1 < length c.index_mut-held.result.now = rw here place.inside in
    omega (arith, c.len.ensures)

pub invariant_of-self : goal.invariant_of-self
invariant_of-self g c =
    let at = c.place_of-part.ensures in
    let many = c.if-self-le-SHORT_LEN.false in
    let below : c.args.start < length (buckets_of c.self.inside.parts.items c.self.inside.beside.items) =
    rw c.self.view_is c.requires.within in
    let place = long_place _ _ _ _ c.self.invariant.0 many _ _ _ _ refl below at.part at.offset in
    let here = get_or_read c.self.inside.parts.items c.place_of-part.result.0 c.index_mut-held.result.now place.within
    c.index_mut-held.ensures.value [] in (
      (spread_in_buckets g.row.TYPE (λ (key : Bor g.row.K.Denot) (answer : ℕ). goal.F-post g c.args.hash_of.now key answer)
          (IsShifted c.args.shift) _ _ _ _ c.self.invariant.0 many _ _ c.args.start below at.part at.offset c.args.source.now
          c.spread.new.source c.spread.new.self (λ first stands. rw (← here) (c.spread.ensures.spreads first stands))).0,
      c.self.invariant.1,
    )

pub returns-clause-spreads : goal.returns-clause-spreads
returns-clause-spreads g c =
    let at = c.place_of-part.ensures in
    let many = c.if-self-le-SHORT_LEN.false in
    let below : c.args.start < length (buckets_of c.self.inside.parts.items c.self.inside.beside.items) =
    rw c.self.view_is c.requires.within in
    let place = long_place _ _ _ _ c.self.invariant.0 many _ _ _ _ refl below at.part at.offset in
    let here = get_or_read c.self.inside.parts.items c.place_of-part.result.0 c.index_mut-held.result.now place.within
    c.index_mut-held.ensures.value [] in
    rw (← c.self.view_is)
    (spread_in_buckets g.row.TYPE (λ (key : Bor g.row.K.Denot) (answer : ℕ). goal.F-post g c.args.hash_of.now key answer)
    (IsShifted c.args.shift) _ _ _ _ c.self.invariant.0 many _ _ c.args.start below at.part at.offset c.args.source.now
    c.spread.new.source c.spread.new.self (λ first stands. rw (← here) (c.spread.ensures.spreads first stands))).1

pub returns-clause-front : goal.returns-clause-front
returns-clause-front g c =
    let at = c.place_of-part.ensures in
    let many = c.if-self-le-SHORT_LEN.false in
    let below : c.args.start < length (buckets_of c.self.inside.parts.items c.self.inside.beside.items) =
    rw c.self.view_is c.requires.within in
    let place = long_place _ _ _ _ c.self.invariant.0 many _ _ _ _ refl below at.part at.offset in
    let here = get_or_read c.self.inside.parts.items c.place_of-part.result.0 c.index_mut-held.result.now place.within
    c.index_mut-held.ensures.value [] in
    let after = spread_in_buckets g.row.TYPE (λ (key : Bor g.row.K.Denot) (answer : ℕ). goal.F-post g c.args.hash_of.now key answer)
    (IsShifted c.args.shift) _ _ _ _ c.self.invariant.0 many _ _ c.args.start below at.part at.offset c.args.source.now
    c.spread.new.source c.spread.new.self (λ first stands. rw (← here) (c.spread.ensures.spreads first stands)) in
    rw (← c.self.view_is)
    (same_buckets_before _ _ _ _ _ _ c.args.start c.spread.new.self c.self.invariant.0 after.0 many below at.part at.offset
    (λ i before. rw (← here) (c.spread.ensures.front i before)))
