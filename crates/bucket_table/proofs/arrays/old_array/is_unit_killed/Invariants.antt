use Rattle.bucket_table.proofs.Words.{killed_flags}
use Rattle.std.proofs.Common.{false, get_or, true, ℕ, ◌<◌, ◌≡◌, ◌≤◌}
use Rattle.bucket_table.proofs.arrays.old_array.is_unit_killed.Given as goal

abbrev pub invariant-loop-i : goal.invariant-loop-i
invariant-loop-i g l = (k : ℕ) → l.start ≤ k → k < l.i → get_or (killed_flags l.array) k false ≡ true
