-- Whether the buckets near an index are crowded or deserted, by a sum that saturates.
use Rattle.bucket_table.proofs.Words.{BucketView, List, ℕ, arith, counted, length, live_counts, min, subst, sym, ◌%◌, ◌*◌, ◌+◌, ◌-◌, ◌^◌}
use Rattle.bucket_table.proofs.Words.{◌↔◌, ◌≡◌, ◌≤◌}
use Rattle.bucket_slots.proofs.ArrayNumbers.{small_is_one, small_within}
use Rattle.std.proofs.Math.Nat.{mod-lt}
use Rattle.bucket_slots.specs.Sampling.{IsSmallSample}
use Rattle.bucket_slots.specs.Sizing.{IsTooEmpty, IsTooFull}
use Rattle.bucket_table.specs.Resize.Sampling.{IsCrowded, IsDeserted}
use Rattle.bucket_table.proofs.Resize.Samples.{length-live_counts}

-- the small sample from a bucket's place in it is within the array
pub near_within : (len index size : ℕ) → 2 ≤ len → IsSmallSample len size → index % size + size ≤ len
near_within len index size several small =
    let (some, half) = small_within len size several small in
    omega (arith, mod-lt index some, half)

module _ {K V : Type 0} (buckets : List (BucketView K V)) (index size : ℕ) (small : IsSmallSample (length buckets) size)
    (few : size ≤ 2 ^ 56) (live : ℕ) (summed : live ≡ min (counted (live_counts buckets) (index % size) size) (2 ^ 64 - 1)) where
  abbrev sum : ℕ → ℕ
  sum n = counted (live_counts buckets) (index % n) n

  near : IsSmallSample (length (live_counts buckets)) size
  near = subst (λ (n : ℕ). IsSmallSample n size) (sym (length-live_counts buckets)) small

  pub crowded : {P : Type 0} → (P ↔ IsTooFull (size * 32) live) → P ↔ IsCrowded (live_counts buckets) index
  crowded is = (
    λ p. let full = is.0 p in (size, near, omega (arith, full, summed)),
    λ (n, n_small, full).
        is.1 (omega (arith, subst (λ (n : ℕ). IsTooFull (32 * n) (sum n)) (small_is_one _ n size n_small near) full, summed)),
  )

  pub deserted : {P : Type 0} → (P ↔ IsTooEmpty (size * 32) live) → P ↔ IsDeserted (live_counts buckets) index
  deserted is = (
    λ p. let empty = is.0 p in (size, near, omega (arith, empty, summed)),
    λ (n, n_small, empty).
        let same = small_is_one _ n size n_small near in
        is.1 (omega (arith, subst (λ (n : ℕ). IsTooEmpty (32 * n) (sum n)) same empty, summed)),
  )
