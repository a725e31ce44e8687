use Rattle.bucket_table.proofs.Words.{bucket_at, counted_to, entries_among, length, take, ℕ, ◌-◌, ◌<◌, ◌≡◌}
use Rattle.bucket_table.specs.Walking.Row.{row_of}
use Rattle.bucket_table.proofs.arrays.Arrays.count.Given as goal

-- the live slots so far, and 32 own slots in each bucket so far
abbrev pub invariant-loop-bucket : goal.invariant-loop-bucket
invariant-loop-bucket g l =
    (l.live ≡ counted_to (entries_among (take l.index (row_of l.self))))
    × ((i : ℕ) → i < l.index → length (bucket_at (row_of l.self) i).own ≡ 32)

abbrev pub decreases-loop-bucket : goal.decreases-loop-bucket
decreases-loop-bucket g l = length (row_of l.self) - l.index
