use Rattle.bucket_table.proofs.Words.{get_or, live_counts, ℕ, ◌<◌, ◌≡◌}
use Rattle.bucket_table.proofs.arrays.resize.is_empty.Given as goal

abbrev pub invariant-loop-index : goal.invariant-loop-index
invariant-loop-index g l = (i : ℕ) → i < l.index → get_or (live_counts l.array) i 0 ≡ 0
