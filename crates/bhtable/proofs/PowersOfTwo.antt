-- The least power of two above a power of two is that power.
use Rattle.std.proofs.Common.{◌≡◌, ℕ, ◌*◌, ◌/◌, ◌<◌, ◌≤◌, ◌^◌, ◌↔◌, inl, inr, max, suc, true, false, arith}
use Rattle.std.proofs.Math.Pow.{pow_mono}
use Rattle.std.proofs.Math.Nat.{pow-suc}
use Rattle.std.proofs.lemmas.Bool.{cases_lt, false≢true}
use Rattle.std.proofs.lemmas.Nat.{pow_pos}
use Rattle.std.specs.Int.{IsPowerOfTwo}

pub next_is_same : (power next : ℕ) → IsPowerOfTwo power → IsPowerOfTwo next → power ≤ next → next / 2 < max 1 power → next ≡ power
next_is_same power next (k, power_is) (j, next_is) above near =
    elim (cases_lt k j) [
      | inl less ↦
          let double : 2 ^ suc k ≤ 2 ^ j = pow_mono less in
          let twice : 2 ^ suc k ≡ 2 ^ k * 2 = pow-suc 2 k in
          let some : 0 < 2 ^ k = pow_pos k in
          omega arith
      | inr same ↦
          let below : 2 ^ j ≤ 2 ^ k = pow_mono same in
          omega arith
    ]

pub at_most_half : (power : ℕ) → IsPowerOfTwo power → power < 2 ^ 64 → power ≤ 2 ^ 63
at_most_half power (k, power_is) fits =
    elim (cases_lt 63 k) [
      | inl above ↦
          let large : 2 ^ 64 ≤ 2 ^ k = pow_mono above in
          omega arith
      | inr below ↦
          let small : 2 ^ k ≤ 2 ^ 63 = pow_mono below in
          omega arith
    ]

-- what is rejected can't be so
pub refused : {P : Type 0} → (P → ⊥) → (false ≡ true) ↔ P
refused never = (λ (e : false ≡ true). absurd (false≢true e), λ p. absurd (never p))
