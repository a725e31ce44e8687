use Rattle.bucket_slots.proofs.Words.{always_mut}
use Rattle.bucket_slots.proofs.AskingSlots.{IsAsking}
use Rattle.bucket_slots.proofs.bucket.row.Row.retain.Given as goal

-- the function can be called again, and was called with each pair whose bit is cleared
abbrev pub invariant-loop-left : goal.invariant-loop-left
invariant-loop-left g l =
    (always_mut g.F.FnMut l.fn.keep → always_mut g.F.FnMut l.keep)
    × IsAsking (λ state own before answer after last. goal.F-step g state own before answer after last) l.fn.keep l.fn.self l.keep l.self
    l.left

abbrev pub decreases-loop-left : goal.decreases-loop-left
decreases-loop-left g l = l.left
