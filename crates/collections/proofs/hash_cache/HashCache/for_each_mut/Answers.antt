use Rattle.std.proofs.Common.{◌≡◌, true, ◌∙◌, refl, sym}
use denote.Param.Always.{always_mut, mut_by, mut_next}
use denote.Param.Members.{Called}
use Rattle.collections.specs.Changes.{Retains}
use Rattle.collections.specs.Maps.{map_of}
use Rattle.collections.proofs.Visits.{retains_lent}
use Rattle.collections.proofs.hash_cache.HashCache.for_each_mut.Goals as goal

pub fact_asks-requires : goal.fact_asks-requires
fact_asks-requires g c = record {
  callable = mut_by _ (λ s. always_mut g.F.FnMut s.0.now) (λ s a i. i)
      (λ s a r t i e. mut_next g.F.FnMut _ _ _ _ _ e.met.1.1.6 refl i) _ c.requires.callable;
}

-- the function that the closure borrows is the same one, may be called again, and was lent the values
went : (g : _) (c : goal.After-f-1 g) → (c.f-1.given.0 ≡ c.retain.new.f.0.now) × always_mut g.F.FnMut c.retain.new.f.0.now
    × Retains g.K.PartialEq.eq (λ s own before answer after t. (answer ≡ true) × Called g.F.FnMut s (own, (before, tt)) (tt, (after, tt)) t)
    c.args.f.now (map_of c.args.self.now) (map_of c.retain.new.self) c.retain.new.f.0.now
went g c =
    let all = retains_lent (λ s. s.0.now) (λ s. (s.0.ghost_name ≡ c.keep-1.given) × always_mut g.F.FnMut s.0.now) g.K.PartialEq.eq _
    (λ s own before answer after t. (answer ≡ true) × Called g.F.FnMut s (own, (before, tt)) (tt, (after, tt)) t)
    (λ s own before answer after t kept e. (
      (e.met.0 ∙ kept.0, mut_next g.F.FnMut _ _ _ _ _ e.met.1.1.6 refl kept.1),
      (e.met.1.1.0, e.met.1.1.1, e.met.1.1.2, e.met.1.1.3, e.met.1.1.4, e.met.1.1.5, (e.met.1.0, e.met.1.1.6)),
    )) _ _ _ _ (refl, c.requires.callable) c.retain.ensures.retained in
    (c.f-1.given.1 (sym all.0.0), all.0.1, all.1)

pub returns-clause-again : goal.returns-clause-again
returns-clause-again g c = rw (went g c).0 (went g c).1

pub returns-clause-written : goal.returns-clause-written
returns-clause-written g c = rw (went g c).0 (went g c).2
