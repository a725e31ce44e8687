use Rattle.std.proofs.Common.{sym}
use Rattle.collections.proofs.Visits.{pairs_visited_from}
use Rattle.collections.proofs.hash_map.HashMap.pour.Goals as goal

pub returns : goal.returns
returns g c =
    let went = pairs_visited_from (λ s. s.0.now) (λ s. s.0.ghost_name) _ (λ p pair q. g.M.TakesPairs.Takes p pair.0 pair.1 q)
    _ _ _ c.for_each_ref.ensures.calls (λ s own value t kept e. (e.met.0, e.met.1)) in
    rw (c.into-1.given.1 (sym went.0)) went.1
