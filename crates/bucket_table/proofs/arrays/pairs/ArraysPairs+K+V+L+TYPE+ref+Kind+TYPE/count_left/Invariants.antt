-- The pairs that were counted and the remaining ones are all.
use Rattle.std.specs.Prelude.{ℕ, ◌≡◌, ◌+◌, ◌-◌, ◌^◌, length, min}
use Rattle.bucket_table.proofs.arrays.pairs.ArraysPairs+K+V+L+TYPE+ref+Kind+TYPE.count_left.Given as goal

abbrev pub invariant-pairs : goal.invariant-pairs
invariant-pairs g l = (seen : ℕ) × (length l.fn.self ≡ seen + length l.rest) × (l.count ≡ min seen (2 ^ 64 - 1))

abbrev pub decreases-pairs : goal.decreases-pairs
decreases-pairs g l = length l.rest
