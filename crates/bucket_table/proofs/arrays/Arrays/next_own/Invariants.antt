use Rattle.bucket_table.proofs.Words.{length, ◌-◌, ◌≡◌}
use Rattle.bucket_table.specs.Walking.Row.{pairs_from, row_of}
use Rattle.bucket_table.proofs.arrays.Arrays.next_own.Given as goal

-- only buckets without a pair ahead were passed
abbrev pub invariant-buckets : goal.invariant-buckets
invariant-buckets g l = pairs_from (row_of l.self) l.fn.index l.fn.at ≡ pairs_from (row_of l.self) l.index l.at

abbrev pub decreases-buckets : goal.decreases-buckets
decreases-buckets g l = length (row_of l.self) - l.index
