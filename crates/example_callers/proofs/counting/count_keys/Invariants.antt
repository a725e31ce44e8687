use Rattle.std.proofs.Common.{take}
use Rattle.collections.specs.Maps.{IsUnique}
use Rattle.example_callers.specs.Counts.{Counts}
use Rattle.example_callers.proofs.counting.count_keys.Given as goal

-- the keys so far are counted
abbrev pub invariant-loop-key : goal.invariant-loop-key
invariant-loop-key g l = Counts g.K.PartialEq.eq (take l.key-index l.keys) l.counts × IsUnique g.K.PartialEq.eq l.counts
