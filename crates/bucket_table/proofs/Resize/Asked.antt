-- When a resize is tried, by what the code reads.
use Rattle.bucket_table.proofs.Words.{ArraysView, AsksShrinking, Bool, BucketView, IsTrue, List, ℕ, arith, cases_lt, false, false≢true}
use Rattle.bucket_table.proofs.Words.{length, live_counts, slots_of, subst, sym, ⊎_elim, ◌<◌, ◌↔◌, ◌∙◌, ◌≡◌, ◌≤◌}
use Rattle.bucket_table.specs.Resize.Asking.{AsksGrowth}
use Rattle.bucket_table.specs.Resize.Sampling.{IsCrowded, IsDeserted}

pub none_from : {len : ℕ} {seen : Bool} → (IsTrue seen ↔ (0 < len)) → seen ≡ false → len ≡ 0
none_from {len} {seen} means is = ⊎_elim (λ (some : 0 < len). absurd (false≢true (sym is ∙ means.1 some))) (λ (none : len ≤ 0). omega arith)
    (cases_lt 0 len)

module _ {K V : Type 0} (arrays : ArraysView K V) (index len : ℕ) (seen : Bool) (len_is : len ≡ length arrays.current) (some : len ≡ 0 → ⊥)
    (means : IsTrue seen ↔ (0 < length arrays.linked)) (is : seen ≡ false) where
  pub asks_growth : {array : List (BucketView K V)} {P : Type 0} → array ≡ arrays.current → (P ↔ IsCrowded (live_counts array) index)
      → P ↔ AsksGrowth arrays index
  asks_growth {array} {P} same near = (
    λ p. record {
      some = omega arith;
      alone = none_from means is;
      near = subst (λ (b : List (BucketView K V)). IsCrowded (live_counts b)
          index) same (near.0 p);
    },
    λ asks. near.1 (subst (λ (b : List (BucketView K V)). IsCrowded (live_counts b) index) (sym same) asks.near),
  )

  pub asks_shrinking : {array : List (BucketView K V)} {slots : ℕ} {P : Type 0} → array ≡ arrays.current
      → slots ≡ slots_of (live_counts array) → arrays.minimum < slots
      → (P ↔ IsDeserted (live_counts array) index) → P ↔ AsksShrinking arrays index
  asks_shrinking {array} {slots} {P} same slots_is more near = (
    λ p. record {
      some = omega arith;
      alone = none_from means is;
      more = subst (λ (b : List (BucketView K V)). arrays.minimum < slots_of (live_counts b)) same (omega arith);
      near = subst (λ (b : List (BucketView K V)). IsDeserted (live_counts b) index) same (near.0 p);
    },
    λ asks. near.1 (subst (λ (b : List (BucketView K V)). IsDeserted (live_counts b) index) (sym same) asks.near),
  )
