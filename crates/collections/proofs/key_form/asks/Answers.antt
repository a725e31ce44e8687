use Rattle.std.proofs.Common.{inl, inr, refl, sym}
use Rattle.collections.proofs.key_form.asks.Goals as goal

pub condition-requires : goal.condition-requires
condition-requires g c = c.requires.callable _ _ c.in-Some.ensures.there

pub returns-in-Some-clause-asked : goal.returns-in-Some-clause-asked
returns-in-Some-clause-asked g c = inr (c.in-Some.own, c.in-Some.value, c.in-Some.ensures.there, c.condition.ensures)

pub returns-in-None-clause-asked : goal.returns-in-None-clause-asked
returns-in-None-clause-asked g c = inl (sym c.in-None.ensures.value, refl)
