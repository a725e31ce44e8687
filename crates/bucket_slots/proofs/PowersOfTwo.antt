-- Powers of two: their order, their quotients, and the least one.
use Rattle.bucket_slots.proofs.Words.{IsLeastPowerOfTwo, IsPowerOfTwo, ap, arith, cases_lt, max, min, pow-add, pow_below, pow_mono, pow_pos}
use Rattle.bucket_slots.proofs.Words.{refl, shl-shr, subst, sym, ℕ, ⊎_elim, ◌%◌, ◌*◌, ◌+◌, ◌-◌, ◌/◌, ◌<◌, ◌^◌, ◌∙◌, ◌≡◌, ◌≤◌}
use Rattle.bucket_slots.specs.Sizing.{IsPowerIn}

pub power_more : (k : ℕ) → 2 ^ (k + 1) ≡ 2 * 2 ^ k
power_more k = pow-add 2 k 1 ∙ omega arith

-- the order of powers is that of their exponents
pub exponent_lt : (i j : ℕ) → 2 ^ i < 2 ^ j → i < j
exponent_lt i j h =
    ⊎_elim (λ (less : i < j). less)
    (λ (le : j ≤ i). let most : 2 ^ j ≤ 2 ^ i = pow_mono le in absurd (omega arith))
    (cases_lt i j)

pub exponent_le : (i j : ℕ) → 2 ^ i ≤ 2 ^ j → i ≤ j
exponent_le i j h =
    ⊎_elim (λ (less : j < i). let more : 2 ^ j < 2 ^ i = pow_below j i less in absurd (omega arith))
    (λ (le : i ≤ j). le)
    (cases_lt j i)

pub exponent_is : (e k : ℕ) → 2 ^ e ≤ 2 ^ k → 2 ^ k < 2 * 2 ^ e → k ≡ e
exponent_is e k low high =
    let least = exponent_le e k low in
    let more = power_more e in
    let most = exponent_lt k (e + 1) (omega arith) in
    omega arith

pub exponent_is_one : (i j : ℕ) → 2 ^ i ≡ 2 ^ j → i ≡ j
exponent_is_one i j e =
    let le = exponent_le i j (omega arith) in
    let ge = exponent_le j i (omega arith) in
    omega arith

pub power_parts : (i j : ℕ) → i ≤ j → 2 ^ j ≡ 2 ^ (j - i) * 2 ^ i
power_parts i j le = let whole : j ≡ j - i + i = omega arith in ap (λ (k : ℕ). 2 ^ k) whole ∙ pow-add 2 (j - i) i

pub power_quotient : (i j : ℕ) → i ≤ j → 2 ^ j / 2 ^ i ≡ 2 ^ (j - i)
power_quotient i j le = ap (λ (n : ℕ). n / 2 ^ i) (power_parts i j le) ∙ shl-shr (2 ^ (j - i)) i

-- a power of two between 2^e and its double is 2^e
pub log_is : (n e : ℕ) → IsPowerOfTwo n → 2 ^ e ≤ n → n < 2 * 2 ^ e → n ≡ 2 ^ e
log_is n e (k, is) low high =
    let same : k ≡ e = exponent_is e k (subst (λ (x : ℕ). 2 ^ e ≤ x) is low) (subst (λ (x : ℕ). x < 2 * 2 ^ e) is high) in
    is ∙ ap (λ (j : ℕ). 2 ^ j) same

-- a power of two divided by a lower one is a power of two
pub power_of_quotient : (n k : ℕ) → IsPowerOfTwo n → 2 ^ k ≤ n → IsPowerOfTwo (n / 2 ^ k)
power_of_quotient n k (j, is) le =
    let order : k ≤ j = exponent_le k j (subst (λ (x : ℕ). 2 ^ k ≤ x) is le) in
    (j - k, ap (λ (x : ℕ). x / 2 ^ k) is ∙ power_quotient k j order)

power_max : (m n : ℕ) → IsPowerOfTwo m → IsPowerOfTwo n → IsPowerOfTwo (max m n)
power_max m n p q =
    ⊎_elim (λ (h : m < n). let e : n ≡ max m n = omega arith in subst IsPowerOfTwo e q)
    (λ (h : n ≤ m). let e : m ≡ max m n = omega arith in subst IsPowerOfTwo e p)
    (cases_lt m n)

power_min : (m n : ℕ) → IsPowerOfTwo m → IsPowerOfTwo n → IsPowerOfTwo (min m n)
power_min m n p q =
    ⊎_elim (λ (h : m < n). let e : m ≡ min m n = omega arith in subst IsPowerOfTwo e p)
    (λ (h : n ≤ m). let e : n ≡ min m n = omega arith in subst IsPowerOfTwo e q)
    (cases_lt m n)

-- the start of a growth is a power of two
pub power_start : (least capacity maximum : ℕ) → IsPowerOfTwo least → IsPowerOfTwo capacity → IsPowerOfTwo maximum
    → IsPowerOfTwo (min (max least capacity) maximum)
power_start least capacity maximum p q r = power_min (max least capacity) maximum (power_max least capacity p q) r

-- a power of two that is at least n is the least one if half of it is below n
pub least_from_half : (n p : ℕ) → IsPowerOfTwo p → n ≤ p → p / 2 < max 1 n → IsLeastPowerOfTwo n p
least_from_half n p (k, is) enough half = record {
  is_power = (k, is);
  at_least = enough;
  least = λ other (m, other_is) other_enough. ⊎_elim
      (λ (less : m < k).
      let twice : 2 ^ (m + 1) ≤ 2 ^ k = pow_mono (omega arith) in
      let more = power_more m in
      let some = pow_pos m in
      absurd (omega arith))
      (λ (le : k ≤ m). let most : 2 ^ k ≤ 2 ^ m = pow_mono le in omega arith)
      (cases_lt m k);
}

-- there is one least power of two
pub least_is_one : (n p q : ℕ) → IsLeastPowerOfTwo n p → IsLeastPowerOfTwo n q → p ≡ q
least_is_one n p q a b =
    let le = a.least q b.is_power b.at_least in
    let ge = b.least p a.is_power a.at_least in
    omega arith

-- an array's length is a power of two, from 2 to 2^57
pub len_in : (capacity power : ℕ) → IsLeastPowerOfTwo (min capacity (2 ^ 62)) power → IsPowerIn 2 (2 ^ 57) (max power 64 / 32)
len_in capacity power h =
    let most : power ≤ 2 ^ 62 = h.least (2 ^ 62) (62, refl) (omega arith) in
    record {
      power = power_of_quotient (max power 64) 5 (power_max power 64 h.is_power (6, refl)) (omega arith);
      at_least = omega arith;
      at_most = omega arith;
    }

-- a lower power of two divides a power of two
pub power_divides : (i j : ℕ) → i ≤ j → 2 ^ j ≡ 2 ^ j / 2 ^ i * 2 ^ i
power_divides i j le = power_parts i j le ∙ ap (λ (n : ℕ). n * 2 ^ i) (sym (power_quotient i j le))

-- a shift of one stays in range
pub shifted_one : (bits : ℕ) → bits < 64 → 1 * 2 ^ bits % 2 ^ 64 ≡ 2 ^ bits
shifted_one bits few = let less = pow_below bits 64 few in omega arith
