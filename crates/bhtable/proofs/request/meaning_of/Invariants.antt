use Rattle.std.proofs.Common.{◌≡◌, map, length}
use Rattle.bhtable.specs.Meanings.{meaning}
use Rattle.bhtable.proofs.request.meaning_of.Given as goal

abbrev pub invariant-loop-table : goal.invariant-loop-table
invariant-loop-table g l =
    meaning (map (λ row. (row.0.now, row.1)) l.table) l.word ≡ meaning (map (λ row. (row.0.now, row.1)) l.fn.table) l.word

abbrev pub decreases-loop-table : goal.decreases-loop-table
decreases-loop-table g l = length l.table
