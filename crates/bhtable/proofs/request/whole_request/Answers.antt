use Rattle.std.proofs.Common.{sym, ◌∙◌}
use Rattle.bhtable.proofs.Verbs.{asked_all, parts_left, refused_parts, unknown_verb}
use Rattle.bhtable.proofs.request.whole_request.Goals as goal

pub returns-in_err-form-clause-refused : goal.returns-in_err-form-clause-refused
returns-in_err-form-clause-refused c =
    rw c.from_residual.ensures (unknown_verb _ _ (sym c.meaning_of.ensures ∙ c.in_err-form.was))

pub returns-in_err-request-clause-refused : goal.returns-in_err-request-clause-refused
returns-in_err-request-clause-refused c =
    rw c.from_residual-in_err-request.ensures
    (refused_parts _ _ _ (sym c.meaning_of.ensures ∙ c.in_ok-form.was) c.in_err-request.ensures.refused)

pub returns-in-None-clause-asked : goal.returns-in-None-clause-asked
returns-in-None-clause-asked c =
    let asked = c.in_ok-request.ensures.asked in
    let begins = rw c.in-None.ensures at asked.1 in
    asked_all _ _ _ _ (sym c.meaning_of.ensures ∙ c.in_ok-form.was) asked.0 begins

pub returns-in-Some-clause-refused : goal.returns-in-Some-clause-refused
returns-in-Some-clause-refused c =
    let asked = c.in_ok-request.ensures.asked in
    parts_left _ _ _ _ _ _ _ (sym c.meaning_of.ensures ∙ c.in_ok-form.was) asked.0 asked.1 c.in-Some.ensures
