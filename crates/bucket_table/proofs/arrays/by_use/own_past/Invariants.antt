use Rattle.bucket_table.proofs.Words.{◌-◌, ◌≡◌}
use Rattle.std.proofs.Common.{drop}
use Rattle.bucket_table.specs.Walking.ByUse.{own_left}
use Rattle.bucket_table.proofs.arrays.by_use.own_past.Given as goal

-- the remaining pairs stay the same
abbrev pub invariant-slots : goal.invariant-slots
invariant-slots g l = own_left l.bucket (drop l.given l.slots) ≡ own_left l.bucket (drop l.fn.given l.slots)

abbrev pub decreases-slots : goal.decreases-slots
decreases-slots g l = 32 - l.given
