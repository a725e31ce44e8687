use Rattle.bucket_slots.proofs.Words.{ap, arith, empty_bucket, length, ℕ, ◌-◌, ◌<◌, ◌^◌, ◌∙◌, ◌≡◌}
use Rattle.bucket_slots.proofs.ArrayParts.{new_array}
use Rattle.bucket_slots.proofs.Digests.{AreDigests-none}
use Rattle.bucket_slots.proofs.PowersOfTwo.{exponent_lt, log_is}
use Rattle.bucket_slots.proofs.Sampled.{large_fits}
use Rattle.std.proofs.lemmas.List.{length-replicate}
use Rattle.bucket_slots.proofs.bucket_array.BucketArray.alloc.Goals as goal

pub overflow_cast-result : goal.overflow_cast-result
overflow_cast-result g c =
    let most = large_fits _ _ c.len_for-len.ensures.length.at_most c.large_sample_size_of.ensures in
    omega arith

pub invariant_of-result : goal.invariant_of-result
invariant_of-result g c =
    let made = c.len_for-len.ensures.length in
    let log = c.ilog2.ensures in
    let e : ℕ = c.ilog2.result in
    let is = log_is _ e made.power log.power_le log.next_power_gt in
    let some : 0 < e = exponent_lt 0 e (omega (arith, made.at_least)) in
    let back : e ≡ 64 - (64 - e) = omega arith in (
      rw (ap length c.in_ok-buckets.ensures ∙ length-replicate c.len_for-len.result empty_bucket) (record {
        several = made.at_least;
        few = made.at_most;
        offset_positive = omega arith;
        offset_in_range = omega arith;
        len_is = is ∙ ap (λ (k : ℕ). 2 ^ k) back;
        sampled = c.large_sample_size_of.ensures;
      }),
      AreDigests-none _ _ c.none.ensures,
    )

pub returns : goal.returns
returns g c = new_array c.args.capacity _ _ c.len_for-len.ensures.value c.in_ok-buckets.ensures
