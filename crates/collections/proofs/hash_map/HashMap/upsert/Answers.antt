use Rattle.std.proofs.Common.{Err, Ok, ap, subst, true}
use Rattle.collections.specs.Changes.{Upserts}
use Rattle.collections.specs.Maps.{MapView, map_of}
use Rattle.collections.proofs.Crowding.{upsertion_lacks}
use Rattle.collections.proofs.Slots.{upsertion_grows}
use Rattle.collections.proofs.Steps.{upserts}
use Rattle.collections.proofs.hash_map.HashMap.upsert.Goals as goal

pub returns-clause-map : goal.returns-clause-map
returns-clause-map g c = subst (λ (old : MapView g.row.K.Denot g.row.V.Denot g.row.H.Denot). Upserts g.K.PartialEq.eq c.args.key
    c.args.value old (Ok c.in-Ok.earlier) (map_of c.upsert-outcome.new.self)) c.self.view_is
    (upserts g.K.PartialEq.eq g.met.K.Eq.laws 83 c.self.inside.table c.upsert-outcome.new.self c.fact_sound.ensures.one_map.distinct
    c.fact_sound-2.ensures.one_map.distinct c.args.key c.args.value (Ok c.in-Ok.earlier) c.in-Ok.ensures.map)

pub returns-in-Err-clause-map : goal.returns-in-Err-clause-map
returns-in-Err-clause-map g c = rw (← c.self.view_is) (upserts g.K.PartialEq.eq g.met.K.Eq.laws 83 c.self.inside.table
    c.upsert-outcome.new.self c.fact_sound.ensures.one_map.distinct c.fact_sound-2.ensures.one_map.distinct c.args.key c.args.value
    (Err c.in-Err.value) c.in-Err.ensures.map)

pub returns-in-Err-clause-memory : goal.returns-in-Err-clause-memory
returns-in-Err-clause-memory g c =
    let here = ap (λ p. p.0) c.in-Err.ensures.map.0 in
    let homes = rw (c.hash.ensures, here) at c.fact_homes.ensures in
    rw (← c.self.view_is) (upsertion_lacks g.H.KeyHash.hash_of c.args.key c.self.inside.table c.upsert-outcome.new.self
    c.fact_sound-2.ensures.one_map.placed
    homes.current homes.old (λ mark. true) c.args.value g.K.PartialEq.eq c.in-Err.value c.in-Err.ensures.map c.in-Err.ensures.arrays)

pub returns-clause-slots : goal.returns-clause-slots
returns-clause-slots g c =
    let puts = c.in-Ok.ensures.arrays in
    rw (← c.self.view_is) (upsertion_grows g.H.KeyHash.hash_of c.args.key c.self.inside.table c.upsert-outcome.new.self
    c.fact_sound-2.ensures.one_map.placed c.fact_sound-2.ensures.beside g.K.PartialEq.eq 83 (λ mark. true) c.args.value (Ok c.in-Ok.earlier)
    puts.answer puts.between puts.found puts.done c.in-Ok.ensures.map)

pub returns-in-Err-clause-slots : goal.returns-in-Err-clause-slots
returns-in-Err-clause-slots g c =
    let puts = c.in-Err.ensures.arrays in
    rw (← c.self.view_is) (upsertion_grows g.H.KeyHash.hash_of c.args.key c.self.inside.table c.upsert-outcome.new.self
    c.fact_sound-2.ensures.one_map.placed c.fact_sound-2.ensures.beside g.K.PartialEq.eq 83 (λ mark. true) c.args.value (Err c.in-Err.value)
    puts.answer puts.between puts.found puts.done c.in-Err.ensures.map)
