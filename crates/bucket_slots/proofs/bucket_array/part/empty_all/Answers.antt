use Rattle.bucket_slots.proofs.Words.{ap, arith, empty_bucket, length, length-set, replicate, ◌<◌, ◌∙◌}
use Rattle.bucket_slots.proofs.ArrayParts.{set_one_more}
use Rattle.bucket_slots.proofs.EmptyPlaces.{all_one}
use Rattle.bucket_slots.proofs.bucket_array.part.empty_all.Goals as goal

pub loop-index-preserved : goal.loop-index-preserved
loop-index-preserved g c =
    let items = c.loop-index.buckets.items in
    let kept = c.loop-index.invariant in
    let there : c.loop-index.index < length items =
    omega (arith, kept.len, c.loop-index-test.true, c.len-index-end.ensures, c.args.buckets.now.ok.0) in
    rw c.new.ensures (record {
      len = length-set items c.loop-index.index empty_bucket ∙ kept.len;
      empty = set_one_more items empty_bucket empty_bucket c.loop-index.index there kept.empty;
    })

pub returns : goal.returns
returns g c =
    let kept = c.loop-index.invariant in
    all_one c.loop-index.buckets.items empty_bucket empty_bucket
    (λ i below. kept.empty i (omega
    (arith, below, kept.len, c.loop-index-test.false, c.len-index-end.ensures, c.args.buckets.now.ok.0)))
    ∙ ap (λ n. replicate n empty_bucket) kept.len
