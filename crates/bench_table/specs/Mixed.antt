-- A hash that multiplies twice, and its laws.
use Rattle.std.specs.Prelude.{ℕ, ◌≡◌, ◌<◌, ◌+◌, ◌*◌, ◌/◌, ◌%◌, ◌^◌, true, nat_eq}
use Rattle.std.proofs.Common.{arith, ap, eqb-true}

-- a number times an odd one, in 64 bits
abbrev pub multiplied : ℕ → ℕ
multiplied number = number * 11400714819323198485 % 2 ^ 64

-- multiplied, with its upper half added to its lower one, and multiplied again
unfoldable pub mixed : ℕ → ℕ
mixed key = multiplied ((multiplied key + multiplied key / 2 ^ 32) % 2 ^ 64)

-- a byte is added at the upper end, and the lowest one is dropped
abbrev pub shifted_in : ℕ → ℕ → ℕ
shifted_in number byte = number / 2 ^ 8 + byte * 2 ^ 56

pub mixed_fits : (key : ℕ) → mixed key < 2 ^ 64
unfolding mixed
mixed_fits key = omega arith

pub mixed_alike : (key other : ℕ) → nat_eq key other ≡ true → mixed key ≡ mixed other
mixed_alike key other same = ap mixed (eqb-true key other same)
