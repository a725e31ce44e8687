use Rattle.bucket_slots.proofs.Words.{always_mut, length, pairs_ahead, pairs_in}
use Rattle.bucket_slots.proofs.CallingEach.{IsAmid}
use Rattle.bucket_slots.proofs.bucket.Bucket.for_each.Given as goal

-- the function can be called again, and was called with each pair that is no longer ahead
abbrev pub invariant-pairs : goal.invariant-pairs
invariant-pairs g l =
    (always_mut g.F.FnMut l.fn.f → always_mut g.F.FnMut l.f)
    × IsAmid (λ state own value last. goal.F-step g state own value tt last) l.fn.f (pairs_in l.self) l.f (pairs_ahead l.self l.at)

abbrev pub decreases-pairs : goal.decreases-pairs
decreases-pairs g l = length (pairs_ahead l.self l.at)
