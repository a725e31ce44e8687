use Rattle.bucket_table.proofs.Words.{◌≡◌}
use Rattle.bucket_table.proofs.arrays.Arrays.refresh_unit.Given as goal

abbrev pub invariant-loop-home : goal.invariant-loop-home
invariant-loop-home g l = l.self ≡ l.fn.self
