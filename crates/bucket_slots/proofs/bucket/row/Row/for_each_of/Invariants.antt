use Rattle.bucket_slots.proofs.Words.{always_mut, ones, ◌+◌, ◌≡◌}
use Rattle.bucket_slots.proofs.LiveMasks.{IsCalling}
use Rattle.bucket_slots.proofs.bucket.row.Row.for_each_of.Given as goal

-- the function can be called again, and was called with each pair whose bit is cleared
abbrev pub invariant-loop-called : goal.invariant-loop-called
invariant-loop-called g l =
    (always_mut g.F.FnMut l.fn.f → always_mut g.F.FnMut l.f)
    × IsCalling (λ state own value last. goal.F-step g state own value tt last) l.fn.f l.self l.f l.left
    × (ones l.left + l._called ≡ ones l.live)
