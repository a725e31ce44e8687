use Rattle.std.proofs.lemmas.Result.{IfOk-weaker}
use Rattle.bucket_table.proofs.Scripts.CallSteps.{then_kept}
use Rattle.test_layers.proofs.going_on.next_after.Goals as goal

pub returns-clause-map : goal.returns-clause-map
returns-clause-map g c = IfOk-weaker c.next_sync.result _ _
    (λ locked a. then_kept _ _ _ c.in-Ok.ensures.found.map a.map) c.next_sync.ensures.advances
