use Rattle.bucket_table.proofs.Words.{ap, pairs_in}
use Rattle.bucket_table.proofs.Walking.EachPair.{calls_same}
use Rattle.bucket_table.proofs.arrays.Arrays.for_each_in.Goals as goal

pub returns-in-Some-clause-calls : goal.returns-in-Some-clause-calls
returns-in-Some-clause-calls g c =
    calls_same _ c.args.f.now c.for_each_in.new.f _ _ (ap pairs_in c.in-Some.ensures.array.same)
    c.for_each_in.ensures.calls
