use Rattle.bucket_table.proofs.Words.{ap, pairs_of, ◌∙◌}
use Rattle.bucket_table.proofs.Walking.Row.{begins}
use Rattle.bucket_table.proofs.Map.Rests.{most_counted}
use Rattle.bucket_table.proofs.arrays.Arrays.extract.Goals as goal

pub returns-clause-left : goal.returns-clause-left
returns-clause-left g c = begins c.take_out.result c.null.result c.null.ensures ∙ ap pairs_of c.take_out.ensures.taken

pub invariant_of-result-2 : goal.invariant_of-result-2
invariant_of-result-2 g c =
    let all = begins c.take_out.result c.null.result c.null.ensures ∙ ap pairs_of c.take_out.ensures.taken in
    most_counted _ _ c.is_exact.result c.args.count c.is_exact.ensures c.requires.count all
