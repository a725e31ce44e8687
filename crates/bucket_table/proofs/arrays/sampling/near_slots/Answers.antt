use Rattle.bucket_table.proofs.Words.{arith, ◌^◌, ◌≤◌}
use Rattle.bucket_slots.proofs.ArrayNumbers.{small_within}
use Rattle.bucket_table.proofs.Resize.Neighbours.{crowded, deserted, near_within}
use Rattle.bucket_table.proofs.arrays.sampling.near_slots.Goals as goal

pub live_slots-live-requires : goal.live_slots-live-requires
live_slots-live-requires g c = (
  omega arith,
  near_within _ c.args.index _ (omega (arith, c.len-len.ensures.length.at_least, c.len-len.ensures.value))
      c.small_sample_size-size.ensures,
)

pub overflow_mul-result : goal.overflow_mul-result
overflow_mul-result g c =
    let small = small_within _ c.small_sample_size-size.result (omega (arith, c.len-len.ensures.length.at_least, c.len-len.ensures.value))
    c.small_sample_size-size.ensures in
    omega (arith, small.1, c.len-len.ensures.length.at_most, c.len-len.ensures.value)

pub returns : goal.returns
returns g c =
    let size = c.small_sample_size-size in
    let small = small_within _ size.result (omega (arith, c.len-len.ensures.length.at_least, c.len-len.ensures.value)) size.ensures in
    let few : size.result ≤ 2 ^ 56 = omega (arith, small.1, c.len-len.ensures.length.at_most, c.len-len.ensures.value) in
    record {
      full = crowded c.args.array.now c.args.index size.result size.ensures few c.live_slots-live.result c.live_slots-live.ensures
          (λ is. is, λ is. is);
      empty = deserted c.args.array.now c.args.index size.result size.ensures few c.live_slots-live.result c.live_slots-live.ensures
          (λ is. is, λ is. is);
    }
