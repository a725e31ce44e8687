use Rattle.std.proofs.Common.{◌≡◌, ◌^◌, ◌-◌, count_by, min}
use Rattle.example_session_store.specs.Sessions.{has_expired}
use Rattle.example_session_store.proofs.store.Store.expired_len.Given as goal

-- those so far are counted
abbrev pub invariant-loop-token : goal.invariant-loop-token
invariant-loop-token l = l.expired ≡ min (count_by (λ pair. has_expired l.now pair.1.now) l.yielded) (2 ^ 64 - 1)
