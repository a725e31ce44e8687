use Rattle.bucket_table.proofs.Words.{ap, arith, counted, length, live_counts, min, subst, ◌+◌, ◌-◌, ◌<◌, ◌^◌, ◌∙◌, ◌≡◌}
use Rattle.bucket_table.proofs.Resize.Samples.{counted_more, get_or-live_counts, length-live_counts, live_len}
use Rattle.bucket_table.proofs.arrays.sampling.live_slots.Goals as goal

pub loop-offset-preserved : goal.loop-offset-preserved
loop-offset-preserved g c =
    let within : c.args.start + c.loop-offset.offset < length c.args.array.now = omega
    (arith, c.requires.within, c.loop-offset-test.true) in
    let long = length-live_counts c.args.array.now in
    let inside : c.args.start + c.loop-offset.offset < length (live_counts c.args.array.now) = omega arith in
    let more = counted_more (live_counts c.args.array.now) c.args.start c.loop-offset.offset inside in
    let at = get_or-live_counts c.args.array.now (c.args.start + c.loop-offset.offset) 0 within in
    let here = c.len.ensures ∙ ap live_len c.bucket.ensures in
    omega (arith, more, at, here, c.loop-offset.invariant, c.saturating_add-live.ensures)

pub returns : goal.returns
returns g c =
    let whole : c.loop-offset.offset ≡ c.args.size = omega (arith, c.loop-offset-test.false, c.loop-offset.auto.offset-end) in
    subst (λ n. c.loop-offset.live ≡ min (counted (live_counts c.args.array.now) c.args.start n) (2 ^ 64 - 1)) whole c.loop-offset.invariant
