use Rattle.bucket_table.proofs.Words.{ap, arith, false≢true, length, live_counts, refl, sym, ◌<◌, ◌∙◌}
use Rattle.std.proofs.Common.{below_more}
use Rattle.bucket_table.proofs.Resize.Samples.{get_or-live_counts, length-live_counts, live_len}
use Rattle.bucket_table.proofs.arrays.resize.is_empty.Goals as goal

pub returns-then-len-ne0 : goal.returns-then-len-ne0
returns-then-len-ne0 g c =
    let buckets = c.args.array.now in
    let long = length-live_counts buckets in
    let within : c.loop-index.index < length buckets = omega (arith, c.loop-index-test.true, c.len-index-end.ensures.value) in
    let inside : c.loop-index.index < length (live_counts buckets) = omega arith in
    let here = c.len.ensures ∙ ap live_len c.bucket.ensures ∙ sym (get_or-live_counts buckets c.loop-index.index 0 within) in (
      λ h. absurd (false≢true h),
      λ all. absurd (c.if-len-ne0.true (here ∙ all c.loop-index.index 0 inside)),
    )

pub loop-index-preserved : goal.loop-index-preserved
loop-index-preserved g c =
    let buckets = c.args.array.now in
    let within : c.loop-index.index < length buckets = omega (arith, c.loop-index-test.true, c.len-index-end.ensures.value) in
    let here = c.len.ensures ∙ ap live_len c.bucket.ensures ∙ sym (get_or-live_counts buckets c.loop-index.index 0 within) in
    below_more _ _ c.loop-index.invariant (sym here ∙ c.if-len-ne0.false)

pub returns : goal.returns
returns g c =
    let buckets = c.args.array.now in
    let long = length-live_counts buckets in (
      λ h k d below.
          let within : k < length buckets = omega arith in
          let seen : k < c.loop-index.index = omega (
            arith,
            c.loop-index-test.false,
            c.len-index-end.ensures.value,
            c.loop-index.auto.index-end,
          ) in
          get_or-live_counts buckets k d within ∙ sym (get_or-live_counts buckets k 0 within) ∙ c.loop-index.invariant k seen,
      λ all. refl,
    )
