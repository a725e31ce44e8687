use Rattle.std.proofs.Common.{◌≡◌, ◌∙◌, refl, sym}
use denote.Param.Always.{always_mut, mut_by, mut_next}
use Rattle.std.specs.Fn.{CalledAt}
use Rattle.std.specs.Map.{keys_of}
use Rattle.collections.specs.Keys.{CallsEachKey}
use Rattle.collections.specs.Maps.{pairs_in_bucket}
use Rattle.collections.proofs.Visits.{callable_after, keys_visited}
use Rattle.collections.proofs.hash_set.HashSet.for_each_in.Goals as goal

pub fact_visits-requires : goal.fact_visits-requires
fact_visits-requires g c = record {
  callable = mut_by _ (λ s. always_mut g.F.FnMut s.0.now) (λ s a i. i)
      (λ s a r t i e. mut_next g.F.FnMut _ _ _ _ _ e.met.1.called refl i) _ c.requires.callable;
}

-- the function that the closure borrows is the same one, and was called with the keys of the bucket
went : (g : _) (c : goal.After-f-1 g) → (c.f-1.given.0 ≡ c.for_each_in.new.f.0.now)
    × CallsEachKey g.F.FnMut c.args.f.now (keys_of (pairs_in_bucket c.args.self.now c.args.bucket)) c.for_each_in.new.f.0.now
went g c =
    let all = keys_visited (λ s. s.0.now) (λ s. s.0.ghost_name ≡ c.visit-1.given) _ (λ p k q. CalledAt g.F.FnMut p k tt q)
    (λ s own value t kept e. (e.met.0 ∙ kept, e.met.1)) _ _ _ refl c.for_each_in.ensures.calls in
    (c.f-1.given.1 (sym all.0), rw (← c.self.view_is) all.1)

pub returns-clause-again : goal.returns-clause-again
returns-clause-again g c = rw (went g c).0 (callable_after g.F.FnMut _ _ _ (went g c).1 c.requires.callable)

pub returns-clause-calls : goal.returns-clause-calls
returns-clause-calls g c = rw (went g c).0 (went g c).1

pub returns-clause-there : goal.returns-clause-there
returns-clause-there g c = rw (← c.self.view_is) c.for_each_in.ensures.there
