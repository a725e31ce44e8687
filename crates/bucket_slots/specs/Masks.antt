-- Masks: numbers whose bits are set for the elements of a list that pass a test.
use Rattle.std.specs.Prelude.{ℕ, ◌≡◌, Bool, false, cond, List, map, slice_index_or}
use Rattle.std.specs.Int.{bit_at}

-- bit i is set exactly if there is an element i and it passes
abbrev pub IsMaskOf : {A : Type 0} → (A → Bool) → List A → ℕ → Type 0
IsMaskOf test xs bits = (i : ℕ) → bit_at bits i ≡ cond (slice_index_or (map test xs) i false) 1 0
