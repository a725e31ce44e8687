use Rattle.bhtable.proofs.Outputs.{served}
use Rattle.bhtable.proofs.serve.Goals as goal

pub returns-in-Err : goal.returns-in-Err
returns-in-Err g c =
    let left = c.in-Err.ensures in
    served c.in-Err.stop _ _ _ _ left.0 c.report.result left.1 left.2 c.report.ensures
