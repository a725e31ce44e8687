use Rattle.std.proofs.Common.{◌≡◌, IfErr, rules}
use Rattle.bhtable.specs.declared.stop.Stop.TheVariants.{OutputFailed}
use Rattle.bhtable.proofs.Growing.{flushed_line}
use Rattle.bhtable.proofs.output.write_line.Goals as goal

pub returns : goal.returns
returns g c =
    let failed : IfErr c.map_err.result (λ stop. stop ≡ OutputFailed) = search rules in
    flushed_line c.map_err.result _ _ _ c.args.line.now c.in_ok-write_whole.ensures c.flush.ensures.bytes failed
