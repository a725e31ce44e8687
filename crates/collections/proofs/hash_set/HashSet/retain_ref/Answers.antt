use Rattle.std.proofs.Common.{◌≡◌, ◌∙◌, refl, sym}
use denote.Param.Always.{always_mut, mut_by, mut_next}
use Rattle.std.specs.Fn.{CalledAt}
use Rattle.collections.specs.Keys.{RetainsKeys}
use Rattle.collections.proofs.Visits.{askable_after, keys_asked}
use Rattle.collections.proofs.hash_set.HashSet.retain_ref.Goals as goal

pub fact_asks-requires : goal.fact_asks-requires
fact_asks-requires g c = record {
  callable = mut_by _ (λ s. always_mut g.F.FnMut s.0.now) (λ s a i. i)
      (λ s a r t i e. mut_next g.F.FnMut _ _ _ _ _ e.met.1.called refl i) _ c.requires.callable;
}

-- the function that the closure borrows is the same one, and was called with the keys
went : (g : _) (c : goal.After-f-1 g) → (c.f-1.given.0 ≡ c.retain_ref.new.f.0.now)
    × RetainsKeys g.K.PartialEq.eq g.F.FnMut c.args.f.now c.args.self.now c.retain_ref.new.self c.retain_ref.new.f.0.now
went g c =
    let all = keys_asked (λ s. s.0.now) (λ s. s.0.ghost_name ≡ c.keep-1.given) _ (CalledAt g.F.FnMut)
    (λ s own before answer after t kept e. (e.met.0 ∙ kept, e.met.1)) _ _ _ _ refl c.retain_ref.ensures.retained.asked in (
      c.f-1.given.1 (sym all.0),
      rw (← c.self.view_is) (record {
        answers = all.1.0;
        one_each = all.1.1;
        asked = all.1.2;
        left = all.1.3;
        kept = c.retain_ref.ensures.retained.kept;
        slots = c.retain_ref.ensures.retained.slots;
        old_slots = c.retain_ref.ensures.retained.old_slots;
      }),
    )

pub returns-clause-again : goal.returns-clause-again
returns-clause-again g c = rw (went g c).0 (askable_after g.F.FnMut _ _ _ _ (went g c).1.asked c.requires.callable)

pub returns-clause-retained : goal.returns-clause-retained
returns-clause-retained g c = rw (went g c).0 (went g c).1
