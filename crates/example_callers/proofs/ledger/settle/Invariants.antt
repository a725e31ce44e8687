use Rattle.std.proofs.Common.{drop, true, false, ◌+◌, ◌≡◌}
use Rattle.example_callers.specs.Held.{held}
use Rattle.example_callers.specs.Moves.{moved}
use Rattle.example_callers.proofs.ledger.settle.Given as goal

-- what is still to be moved settles the rest
abbrev pub invariant-loop-one : goal.invariant-loop-one
invariant-loop-one g l = let eq = g.K.PartialEq.eq in (name : g.row.K.Denot)
    → held eq l.counts name + moved eq true (drop l.one-index l.moves) name + moved eq false l.moves name
    ≡ held eq l.fn.counts name + moved eq true l.moves name + moved eq false (drop l.one-index l.moves) name
