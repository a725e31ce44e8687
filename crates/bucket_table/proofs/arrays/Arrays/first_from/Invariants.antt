use Rattle.bucket_table.proofs.Words.{length, ◌-◌}
use Rattle.bucket_table.proofs.Walking.CursorSteps.{HasPassed}
use Rattle.bucket_table.proofs.Walking.PassingUnits.{HasWorked}
use Rattle.bucket_table.proofs.arrays.Arrays.first_from.Given as goal

abbrev pub invariant-loop-index : goal.invariant-loop-index
invariant-loop-index g l = HasPassed (g.H.KeyHash.hash_of l.hasher) l.fn.self l.fn.start l.index l.self l.at
    × HasWorked l.fn.self l.fn.start l.index l.self

abbrev pub decreases-loop-index : goal.decreases-loop-index
decreases-loop-index g l = length l.fn.self.current - l.index
