use Rattle.bucket_table.proofs.Words.{length, ◌++◌, ◌-◌, ◌≡◌}
use Rattle.std.proofs.Common.{drop}
use Rattle.bucket_table.specs.Walking.ByUse.{all_by_use}
use Rattle.bucket_table.proofs.arrays.by_use.ArrayByUse.next_pair.Given as goal

-- the remaining pairs stay the same
abbrev pub invariant-buckets : goal.invariant-buckets
invariant-buckets g l = l.self-inside.here ++ all_by_use (drop l.self-inside.next l.self-inside.array.now) ≡ l.fn.self

abbrev pub decreases-buckets : goal.decreases-buckets
decreases-buckets g l = length l.self-inside.array.now - l.self-inside.next
