use Rattle.std.proofs.Common.{◌≤◌, ◌++◌, ℕ, List, length, take, sym, ap, ◌∙◌, arith}
use Rattle.std.proofs.lemmas.Result.{err_from_is_err_and}
use Rattle.bhtable.proofs.WindowLemmas.{vec_grown, vec_kept}
use Rattle.bhtable.proofs.lines.window.Window.read_from.Goals as goal

pub returns-in_err-count-clause-err : goal.returns-in_err-count-clause-err
returns-in_err-count-clause-err g c =
    let w = c.move_to_front.new.self in
    let within : w.end ≤ length c.deref_mut.result.now = omega (arith, w.within, c.deref_mut.ensures.len) in
    let p = err_from_is_err_and c.from_residual.result c.from_residual.ensures.1 in
    rw p.1 (
      vec_kept w.bytes c.deref_mut.result.now c.read_once.new.room w.start w.end w.ordered within c.deref_mut.ensures.value
          (omega arith) ∙ c.move_to_front.ensures.same,
      c.in_err-count.ensures.err,
    )

pub returns-clause-ok : goal.returns-clause-ok
returns-clause-ok g c =
    let w = c.move_to_front.new.self in
    let n = c.in_ok-count.count in
    let bound = c.in_ok-count.ensures.bound in
    let within : w.end ≤ length c.deref_mut.result.now = omega (arith, w.within, c.deref_mut.ensures.len) in
    let grown = vec_grown w.bytes c.deref_mut.result.now c.read_once.new.room w.start w.end n w.ordered within c.deref_mut.ensures.value
    bound.0 (omega arith) in (
      take n c.read_once.new.room,
      sym bound.1,
      grown ∙ ap (λ (t : List ℕ). t ++ take n c.read_once.new.room) c.move_to_front.ensures.same,
      c.in_ok-count.ensures.ok,
    )
