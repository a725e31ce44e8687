use Rattle.collections.specs.Maps.{map_of}
use Rattle.example_callers.proofs.Putting.{none_had, put_session, refused_stays}
use Rattle.example_callers.proofs.sessions.session_for.Goals as goal

pub returns-in-Ok-clause-session : goal.returns-in-Ok-clause-session
returns-in-Ok-clause-session g c =
    put_session g.U.PartialEq.eq (map_of c.args.cache.now) (map_of c.get.follows.lender-at-none) c.get.follows.holds-at-none.map
    g.met.U.Eq.laws c.args.user c.args.fresh c.put.result c.in-Ok.gone (map_of c.put.new.self) c.in-Ok.is c.put.ensures.map

pub returns-in-Err-Present-clause-unchanged : goal.returns-in-Err-Present-clause-unchanged
returns-in-Err-Present-clause-unchanged g c =
    refused_stays g.U.PartialEq.eq (map_of c.args.cache.now) (map_of c.get.follows.lender-at-none) c.get.follows.holds-at-none.map
    c.args.user c.args.fresh c.put.result c.in-Err-Present.field-0 (map_of c.put.new.self) c.in-Err-Present.is c.put.ensures.map

pub returns-in-Err-Present-clause-touched : goal.returns-in-Err-Present-clause-touched
returns-in-Err-Present-clause-touched g c = λ there.
    absurd (none_had c.get.result _ c.is_some.result c.get.ensures.value c.is_some.ensures c.if-is_some.false there)

pub returns-in-Ok-clause-touched : goal.returns-in-Ok-clause-touched
returns-in-Ok-clause-touched g c = λ there.
    absurd (none_had c.get.result _ c.is_some.result c.get.ensures.value c.is_some.ensures c.if-is_some.false there)
