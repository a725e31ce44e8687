-- Bounds on hashes, and where the buckets of an array begin.
use Rattle.bucket_table.proofs.Words.{AllByRecursion, Bool, IsInRange, IsLength, List, Meets, and_from, ap, arith, bound_of, cases_lt}
use Rattle.bucket_table.proofs.Words.{false, false_from_ne_true, inl, inr, interval_width, le-leb, leb-true, lt-ltb, ltb-true}
use Rattle.bucket_table.proofs.Words.{mul-le-mul_right, nat_le, nat_lt, subst, sym, true, ℕ, ◌&&◌, ◌*◌, ◌+◌, ◌-◌, ◌/◌, ◌<◌, ◌^◌, ◌↔◌, ◌∙◌}
use Rattle.bucket_table.proofs.Words.{◌≡◌, ◌≤◌}
use Rattle.std.proofs.Math.Nat.{add-mul, div-mul-le_self, lt-div-mul-add, mul_comm, one-mul}
use Rattle.std.proofs.lemmas.Bool.{and_parts}
use Rattle.bucket_slots.proofs.PowersOfTwo.{exponent_le, power_parts, power_quotient}

-- no pair has a hash from one bound up to but not including another
abbrev pub HasNoneBetween : {K V : Type 0} → (K → ℕ) → ℕ → ℕ → List (K × V) → Type 0
HasNoneBetween hash low high pairs = AllByRecursion (λ pair. low ≤ hash pair.0 → hash pair.0 < high → ⊥) pairs

-- the hash is one of those of bucket `index`
abbrev pub is_inside : ℕ → ℕ → ℕ → Bool
is_inside len index hash = nat_le (bound_of len index) hash && nat_lt hash (bound_of len (index + 1))

-- tests on hashes
module _ (low high hash : ℕ) where
  pub is_in : low ≤ hash → hash < high → (nat_le low hash && nat_lt hash high) ≡ true
  is_in a b = and_from (nat_le low hash) (nat_lt hash high) (le-leb low hash a) (lt-ltb hash high b)

  pub bounds : (nat_le low hash && nat_lt hash high) ≡ true → (low ≤ hash) × (hash < high)
  bounds e = let p = and_parts (nat_le low hash) (nat_lt hash high) e in (leb-true low hash p.0, ltb-true hash high p.1)

  pub is_out : (low ≤ hash → hash < high → ⊥) → (nat_le low hash && nat_lt hash high) ≡ false
  is_out never = false_from_ne_true (nat_le low hash && nat_lt hash high) (λ e. let b = bounds e in never b.0 b.1)

pub next_multiple : (i w : ℕ) → (i + 1) * w ≡ i * w + w
next_multiple i w = add-mul i 1 w ∙ ap (λ (x : ℕ). i * w + x) (one-mul w)

pub all_hashes : (n : ℕ) → IsLength n → n * interval_width n ≡ 2 ^ 64
all_hashes n l =
    let e = l.power.0 in
    let is : n ≡ 2 ^ e = l.power.1 in
    let few : e ≤ 57 = exponent_le e 57 (subst (λ (m : ℕ). m ≤ 2 ^ 57) is l.at_most) in
    let width : interval_width (2 ^ e) ≡ 2 ^ (64 - e) = power_quotient e 64 (omega arith) in
    let whole : 2 ^ 64 ≡ 2 ^ (64 - e) * 2 ^ e = power_parts e 64 (omega arith) in
    subst (λ (m : ℕ). m * interval_width m ≡ 2 ^ 64) (sym is)
    (ap (λ (w : ℕ). 2 ^ e * w) width ∙ mul_comm (2 ^ e) (2 ^ (64 - e)) ∙ sym whole)

-- the last hash of a bucket is a hash
pub bound_fits : (len index : ℕ) → IsLength len → index < len → bound_of len (index + 1) ≤ 2 ^ 64
bound_fits len index is_length within =
    let below : index + 1 ≤ len = omega (arith, within) in
    let all = all_hashes len is_length in
    let less : bound_of len (index + 1) ≤ len * interval_width len = mul-le-mul_right (interval_width len) below in
    omega (arith, all, less)

pub wide : (n : ℕ) → IsLength n → 0 < interval_width n
wide n l =
    elim (cases_lt 0 (interval_width n)) [
      | inl some ↦ some
      | inr none ↦
          let zero_width : interval_width n ≡ 0 = omega (arith, none) in
          let whole = all_hashes n l in
          let nothing_left : n * interval_width n ≡ n * 0 = ap (λ (w : ℕ). n * w) zero_width in
          absurd (omega (arith, whole, nothing_left))
    ]

-- a walk that continues in another array begins no later than the hashes that it hasn't visited
pub begins_early : (from to index low high : ℕ) → 0 < interval_width from → 0 < interval_width to
    → ((j : ℕ) → IsInRange low high j ↔ Meets from index to j) → bound_of to low ≤ bound_of from index
begins_early from to index low high some wide_to range =
    let w : ℕ = interval_width from in
    let v : ℕ = interval_width to in
    let h : ℕ = index * w in
    let j : ℕ = h / v in
    let below : j * v ≤ h = div-mul-le_self h v in
    let above : h < j * v + v = lt-div-mul-add {a = h} {b = v} wide_to in
    let next_j = next_multiple j v in
    let next_i = next_multiple index w in
    let meets : Meets from index to j = (h, (omega arith, omega (arith, next_i, some)), (below, omega (arith, above, next_j))) in
    let first : low ≤ j = ((range j).1 meets).0 in
    omega (arith, mul-le-mul_right v first, below)

-- and its first bucket reaches past that hash
pub begins_late : (from to index low high : ℕ) → low < high → ((j : ℕ) → IsInRange low high j ↔ Meets from index to j)
    → bound_of from index < bound_of to (low + 1)
begins_late from to index low high some range =
    let m : Meets from index to low = (range low).0 (omega arith, some) in
    omega (arith, m.1.0, m.2.1)

pub next_bound : (n index : ℕ) → IsLength n → bound_of n index < bound_of n (index + 1)
next_bound n index l = omega (arith, next_multiple index (interval_width n), wide n l)

-- a bucket found from there on reaches past it too
pub still_past : (from index to other low at : ℕ) → bound_of from index < bound_of to (low + 1)
    → to ≡ other → low ≤ at → bound_of from index < bound_of other (at + 1)
still_past from index to other low at past same order =
    let up : low + 1 ≤ at + 1 = omega (arith, order) in
    let more : bound_of to (low + 1) ≤ bound_of to (at + 1) = mul-le-mul_right (interval_width to) up in
    subst (λ (n : ℕ). bound_of from index < bound_of n (at + 1)) same (omega (arith, past, more))
