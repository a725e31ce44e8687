-- The first bucket of a walk.
use Rattle.bucket_table.proofs.Words.{IsInRange, IsLength, Meets, arith, cases_lt, div-lt_iff_lt-mul, inl, inr, interval_width, refl, ℕ}
use Rattle.bucket_table.proofs.Words.{◌*◌, ◌/◌, ◌<◌, ◌^◌, ◌↔◌, ◌≡◌, ◌≤◌}
use Rattle.bucket_table.specs.Walking.Walks.{BeginsAt}
use Rattle.bucket_table.proofs.Walking.Bounds.{begins_early, begins_late, wide}

-- an array that isn't too long has hashes for each bucket
pub wide_enough : (n : ℕ) → 0 < n → n ≤ 2 ^ 64 → 0 < interval_width n
wide_enough n some few = elim (cases_lt 0 (interval_width n)) [
  | inl is ↦ is
  | inr none ↦
      let small : 2 ^ 64 / n < 1 = omega (arith, none) in
      let less : 2 ^ 64 < 1 * n = (div-lt_iff_lt-mul {k = n} {x = 2 ^ 64} {y = 1} some).0 small in
      absurd (omega (arith, less, few))
]

pub begins_as_given : (len expected start : ℕ) → expected ≡ 0 → BeginsAt len expected start start
begins_as_given len expected start none = record {
  as_given = λ e. refl;
  early = λ some long. absurd (some none);
  reaches = λ some long. absurd (some none);
}

pub begins_nowhere : (len expected start : ℕ) → len ≡ 0 → BeginsAt len expected start start
begins_nowhere len expected start none = record {
  as_given = λ e. refl;
  early = λ some long. absurd (omega (arith, none, long));
  reaches = λ some long. absurd (omega (arith, none, long));
}

pub begins_in : (len expected start low high : ℕ) → (expected ≡ 0 → ⊥) → start < expected → expected < 2 ^ 64 → IsLength len → low < high
    → ((j : ℕ) → IsInRange low high j ↔ Meets expected start len j) → BeginsAt len expected start low
begins_in len expected start low high some within few is_length has range = record {
  as_given = λ none. absurd (some none);
  early = λ is long. begins_early expected len start low high
      (wide_enough expected (omega (arith, within)) (omega (arith, few))) (wide len is_length)
      range;
  reaches = λ is long. begins_late expected len start low high has range;
}
