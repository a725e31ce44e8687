use Rattle.std.proofs.Common.{◌≡◌, ◌∙◌, refl, sym}
use denote.Param.Always.{always_mut, mut_by, mut_next}
use denote.Param.Members.{Called}
use Rattle.std.specs.Borrow.{Bor}
use Rattle.collections.specs.Changes.{Retains}
use Rattle.collections.specs.Maps.{map_of}
use Rattle.collections.proofs.Visits.{retains_lent}
use Rattle.collections.proofs.hash_index.HashIndex.retain.Goals as goal

pub fact_asks-requires : goal.fact_asks-requires
fact_asks-requires g c = record {
  callable = mut_by _ (λ s. always_mut g.F.FnMut s.0.now) (λ s a i. i)
      (λ s a r t i e. mut_next g.F.FnMut _ _ _ _ _ e.met.1.1.2 refl i) _ c.requires.callable;
}

-- the function that the closure borrows is the same one, may be called again, and was called with the pairs
went : (g : _) (c : goal.After-f-1 g) → (c.f-1.given.0 ≡ c.retain_mut.new.f.0.now) × always_mut g.F.FnMut c.retain_mut.new.f.0.now
    × Retains g.K.PartialEq.eq (λ s own before answer after t. (after.now ≡ before.now) × ((value : Bor g.row.V.Denot)
    × (value.now ≡ before.now) × Called g.F.FnMut s (own, (value, tt)) answer t))
    c.args.f.now (map_of c.args.self.now) (map_of c.retain_mut.new.self) c.retain_mut.new.f.0.now
went g c =
    let all = retains_lent (λ s. s.0.now) (λ s. (s.0.ghost_name ≡ c.keep-1.given) × always_mut g.F.FnMut s.0.now) g.K.PartialEq.eq _
    (λ s own before answer after t. (after.now ≡ before.now) × ((value : Bor g.row.V.Denot)
    × (value.now ≡ before.now) × Called g.F.FnMut s (own, (value, tt)) answer t))
    (λ s own before answer after t kept e. (
      (e.met.0 ∙ kept.0, mut_next g.F.FnMut _ _ _ _ _ e.met.1.1.2 refl kept.1),
      (own, before, after, refl, refl, refl, e.met.1),
    )) _ _ _ _ (refl, c.requires.callable) c.retain_mut.ensures.retained in
    (c.f-1.given.1 (sym all.0.0), all.0.1, all.1)

pub returns-clause-again : goal.returns-clause-again
returns-clause-again g c = rw (went g c).0 (went g c).1

pub returns-clause-retained : goal.returns-clause-retained
returns-clause-retained g c = rw (went g c).0 (went g c).2
