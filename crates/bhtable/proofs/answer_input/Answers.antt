use Rattle.std.proofs.lemmas.Result.{err_from_is_err_and}
use Rattle.bhtable.proofs.Outputs.{nothing_answered}
use Rattle.bhtable.proofs.answer_input.Goals as goal

pub returns-in_err-lines : goal.returns-in_err-lines
returns-in_err-lines g c =
    let p = err_from_is_err_and c.from_residual.result c.from_residual.ensures.1 in
    rw (p.1, p.2) (nothing_answered _ _)

pub returns-in_err-session : goal.returns-in_err-session
returns-in_err-session g c =
    let p = err_from_is_err_and c.from_residual-in_err-session.result c.from_residual-in_err-session.ensures.1 in
    rw (p.1, p.2, c.in_err-session.ensures.stop) (nothing_answered _ _)
