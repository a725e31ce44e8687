use Rattle.std.proofs.Common.{◌≡◌, ◌∙◌, ap}
use Rattle.std.specs.Prelude.{◌^◌, min}
use Rattle.collections.specs.Maps.{IsUnique}
use Rattle.std.proofs.lemmas.Option.{same_Some}
use Rattle.collections.proofs.Copying.{copied, copied_slots}
use Rattle.collections.proofs.hash_map.HashMap.try_copy.Goals as goal

pub returns-in-Ok-clause-copy : goal.returns-in-Ok-clause-copy
returns-in-Ok-clause-copy g c =
    let own = c.args.self.now in
    let unique : IsUnique g.K.PartialEq.eq own = rw (← c.self.view_is) c.fact_sound.ensures.one_map.distinct in
    let hasher : c.hasher.result.now ≡ own.hasher = rw (← c.self.view_is) c.hasher.ensures in
    copied_slots g.K.PartialEq.eq g.met.K.Eq.laws _ (λ key value pair made. same_Some _ _ made) own c.in-Ok.copy unique
    c.in-Ok.ensures.pairs (c.in-Ok.ensures.hasher ∙ hasher) c.in-Ok.ensures.minimum c.in-Ok.ensures.maximum

pub returns-in-Some-clause-copy : goal.returns-in-Some-clause-copy
returns-in-Some-clause-copy g c =
    let own = c.args.self.now in
    let made = c.with_room-roomy in
    let unique : IsUnique g.K.PartialEq.eq own = rw (← c.self.view_is) c.fact_sound.ensures.one_map.distinct in
    let hasher : made.result.hasher ≡ own.hasher =
    rw (← c.self.view_is) (made.ensures.hasher ∙ c.in-Err.ensures.hasher_returned ∙ c.hasher.ensures) in
    let minimum : made.result.minimum ≡ min own.minimum (2 ^ 63) =
    rw (← c.self.view_is) (made.ensures.minimum ∙ ap (λ m. min m (2 ^ 63)) c.minimum_capacity-minimum.ensures) in
    copied g.K.PartialEq.eq g.met.K.Eq.laws own made.result c.in-Some.own unique made.ensures.empty hasher minimum
    made.ensures.maximum (rw c.in-Some.is at c.pour.ensures)

pub returns-in-None-clause-succeeds : goal.returns-in-None-clause-succeeds
returns-in-None-clause-succeeds g c = λ empty. absurd (cc (rw empty at (rw c.in-None.is at c.pour.ensures)))
