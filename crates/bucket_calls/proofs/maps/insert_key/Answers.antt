use Rattle.std.proofs.Common.{ℕ, Ok, Err, ap, arith, refl, sym}
use Rattle.bucket_slots.specs.declared.not_inserted.NotInserted.{NotInserted}
use Rattle.bucket_calls.specs.Codes.{insert_code}
use Rattle.bucket_calls.proofs.Refused.{handed_back}
use Rattle.bucket_calls.proofs.maps.insert_key.Goals as goal

pub returns-in-Ok : goal.returns-in-Ok
returns-in-Ok g c = (Ok tt, refl, c.in-Ok.ensures.map, λ e. absurd (omega (arith, e)))

pub returns-in-Err-Present : goal.returns-in-Err-Present
returns-in-Err-Present g c =
    let code : NotInserted g.row.K.Denot (Unit {0}) → ℕ = λ why. insert_code {A = Unit {0}} (Err why) in
    (Err c.in-Err-Present.field-0, sym (ap code c.in-Err-Present.field-0-is), c.in-Err-Present.ensures.map, λ e. absurd (omega (arith, e)))

pub returns-in-Err-Memory : goal.returns-in-Err-Memory
returns-in-Err-Memory g c =
    let code : NotInserted g.row.K.Denot (Unit {0}) → ℕ = λ why. insert_code {A = Unit {0}} (Err why) in
    let back = handed_back g.K.PartialEq.eq c.args.key tt c.args.set.now c.in-Err-Memory.field-0-is c.in-Err-Memory.ensures.map.0 in (
      Err c.in-Err-Memory.field-0,
      sym (ap code c.in-Err-Memory.field-0-is),
      c.in-Err-Memory.ensures.map,
      λ _. c.in-Err-Memory.ensures.memory (ap Err back),
    )
