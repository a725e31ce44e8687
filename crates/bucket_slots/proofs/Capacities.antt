-- There is one optimal capacity, and the length of an array for a capacity is in its bounds.
use Rattle.bucket_slots.proofs.Words.{IsGrownCapacity, IsLeastDoubling, IsLengthFor, IsOptimalCapacity, IsPowerOfTwo, arith, cases_lt, max}
use Rattle.bucket_slots.proofs.Words.{min, subst, sym, ℕ, ⊎_elim, ◌*◌, ◌/◌, ◌<◌, ◌∙◌, ◌≡◌, ◌≤◌}
use Rattle.bucket_slots.proofs.PowersOfTwo.{least_is_one}

below_least : (start entries maximum m n : ℕ) → IsLeastDoubling start entries maximum m → IsLeastDoubling start entries maximum n → m < n
    → ⊥
below_least start entries maximum m n a b less =
    let (k, is) = a.is_doubling in
    let small : m / 2 < entries = subst (λ (x : ℕ). x / 2 < entries) (sym is) (b.least k (subst (λ (x : ℕ). x < n) is less)) in
    ⊎_elim (λ (h : entries ≤ m / 2). absurd (omega arith)) (λ (h : m ≡ maximum). absurd (omega (arith, b.at_most))) a.enough

-- there is one least doubling
least_doubling_is_one : (start entries maximum m n : ℕ) → IsLeastDoubling start entries maximum m → IsLeastDoubling start entries maximum n
    → m ≡ n
least_doubling_is_one start entries maximum m n a b =
    ⊎_elim (λ (less : m < n). absurd (below_least start entries maximum m n a b less))
    (λ (le : n ≤ m). ⊎_elim (λ (more : n < m). absurd (below_least start entries maximum n m b a more))
    (λ (ge : m ≤ n). omega arith) (cases_lt n m))
    (cases_lt m n)

grown_is_one : (capacity entries minimum maximum m n : ℕ) → IsGrownCapacity capacity entries minimum maximum m
    → IsGrownCapacity capacity entries minimum maximum n → m ≡ n
grown_is_one capacity entries minimum maximum m n (p, p_least, a) (q, q_least, b) =
    let same = least_is_one minimum p q p_least q_least in
    least_doubling_is_one (min (max q capacity) maximum) entries maximum m n
    (subst (λ (r : ℕ). IsLeastDoubling (min (max r capacity) maximum) entries maximum m) same a) b

-- a capacity is below the minimum, too full, too empty, or neither
by_fullness : (P : Type 0) (capacity entries minimum : ℕ) → (capacity < minimum → P) → ((capacity / 16) * 13 < entries → P)
    → (minimum ≤ capacity → entries < capacity / 8 → P)
    → (minimum ≤ capacity → entries ≤ (capacity / 16) * 13 → capacity / 8 ≤ entries → P) → P
by_fullness P capacity entries minimum below full empty kept =
    ⊎_elim below (λ (high : minimum ≤ capacity).
    ⊎_elim full (λ (not_full : entries ≤ (capacity / 16) * 13).
    ⊎_elim (empty high) (kept high not_full) (cases_lt entries (capacity / 8)))
    (cases_lt ((capacity / 16) * 13) entries))
    (cases_lt capacity minimum)

-- there is one optimal capacity
pub optimal_is_one : (capacity entries minimum maximum m n : ℕ) → IsOptimalCapacity capacity entries minimum maximum m
    → IsOptimalCapacity capacity entries minimum maximum n → m ≡ n
optimal_is_one capacity entries minimum maximum m n a b =
    by_fullness (m ≡ n) capacity entries minimum
    (λ low. grown_is_one capacity entries minimum maximum m n (a.below_minimum low) (b.below_minimum low))
    (λ full. grown_is_one capacity entries minimum maximum m n (a.too_full full) (b.too_full full))
    (λ high few. least_is_one (max (max (2 * entries) minimum) 64) m n (a.too_empty high few) (b.too_empty high few))
    (λ high not_full enough. a.kept high not_full enough ∙ sym (b.kept high not_full enough))

-- and it is at most the maximum
pub optimal_fits : (capacity entries minimum maximum optimal : ℕ) → IsPowerOfTwo maximum → 64 ≤ maximum → minimum ≤ maximum
    → capacity ≤ maximum → IsOptimalCapacity capacity entries minimum maximum optimal → optimal ≤ maximum
optimal_fits capacity entries minimum maximum optimal power large bounded within is =
    by_fullness (optimal ≤ maximum) capacity entries minimum
    (λ low. (is.below_minimum low).2.at_most)
    (λ full. (is.too_full full).2.at_most)
    (λ high few. (is.too_empty high few).least maximum power (omega arith))
    (λ high not_full enough. omega (arith, is.kept high not_full enough))

-- an array for a capacity has at most as many slots as a maximum that the capacity is within
pub len_fits : (capacity maximum len : ℕ) → IsPowerOfTwo maximum → 64 ≤ maximum → capacity ≤ maximum → IsLengthFor capacity len
    → 32 * len ≤ maximum
len_fits capacity maximum len power large fits (least, is_least, len_is) =
    let most : least ≤ maximum = is_least.least maximum power (omega arith) in
    omega arith
