use Rattle.bucket_table.proofs.Words.{ap, arith, bucket_at, refl, sym, take, ◌∙◌}
use Rattle.std.proofs.lemmas.List.{take_all}
use Rattle.bucket_table.specs.Map.LookingUp.{lent_buckets, pairs_in_all}
use Rattle.bucket_table.proofs.Walking.EachPair.{calls_more, calls_same}
use Rattle.bucket_table.proofs.arrays.pairs.for_each_of.Goals as goal

pub loop-index-preserved : goal.loop-index-preserved
loop-index-preserved g c =
    let array = c.in-Some.array.now in (
      c.for_each_in.ensures.again,
      calls_more _ c.args.f.now c.loop-index.f c.for_each_in.new.f array c.loop-index.index
          (bucket_at array c.loop-index.index)
          (omega (arith, c.loop-index-test.true, c.len-index-end.ensures.value)) refl c.loop-index.invariant.1
          c.for_each_in.ensures.calls,
    )

pub returns-clause-calls : goal.returns-clause-calls
returns-clause-calls g c =
    let array = c.in-Some.array.now in
    let all = take_all c.loop-index.index array (omega (
      arith,
      c.loop-index-test.false,
      c.len-index-end.ensures.value,
    )) in
    calls_same _ c.args.f.now c.loop-index.f (pairs_in_all (take c.loop-index.index array)) _
    (ap pairs_in_all all ∙ sym (ap (λ held. pairs_in_all (lent_buckets held)) c.in-Some.is)) c.loop-index.invariant.1
