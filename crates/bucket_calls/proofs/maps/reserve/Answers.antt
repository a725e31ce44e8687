use Rattle.std.proofs.Common.{Err, Ok, refl}
use Rattle.bucket_calls.proofs.maps.reserve.Goals as goal

pub returns-in-Ok : goal.returns-in-Ok
returns-in-Ok g c = record { answer = Ok tt; code_is = refl; makes = c.in-Ok.ensures }

pub returns-in-Err : goal.returns-in-Err
returns-in-Err g c = record { answer = Err c.in-Err.field-0; code_is = refl; makes = c.in-Err.ensures }
