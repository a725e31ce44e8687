use Rattle.std.proofs.Common.{◌≡◌}
use Rattle.collections.specs.Maps.{IsUnique}
use Rattle.collections.proofs.Cloning.{cloned_slots}
use Rattle.collections.proofs.hash_map.HashMap.try_clone.Goals as goal

pub returns-in-Ok-clause-copy : goal.returns-in-Ok-clause-copy
returns-in-Ok-clause-copy g c =
    let own = c.args.self.now in
    let unique : IsUnique g.K.PartialEq.eq own = rw (← c.self.view_is) c.fact_sound.ensures.one_map.distinct in
    let hasher : c.hasher.result.now ≡ own.hasher = rw (← c.self.view_is) c.hasher.ensures in
    cloned_slots g.K.PartialEq.eq g.K.Clone.is_clone g.V.Clone.is_clone g.met.K.Eq.laws g.H.Clone.is_clone _ own c.in-Ok.copy
    c.in_ok-hasher.hasher (λ key value pair made. made) c.in-Ok.ensures.pairs unique (rw hasher at c.in_ok-hasher.ensures.cases)
    c.in-Ok.ensures.hasher c.in-Ok.ensures.minimum c.in-Ok.ensures.maximum

pub returns-in_err-hasher-clause-succeeds : goal.returns-in_err-hasher-clause-succeeds
returns-in_err-hasher-clause-succeeds g c =
    let hasher : c.hasher.result.now ≡ c.args.self.now.hasher = rw (← c.self.view_is) c.hasher.ensures in
    λ empty sure. absurd (c.in_err-hasher.ensures.cases (rw hasher sure))
