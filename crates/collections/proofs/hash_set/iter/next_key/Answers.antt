use Rattle.std.proofs.Common.{refl, sym, ◌≡◌, ◌∙◌}
use denote.Param.Always.{always_mut, mut_by, mut_next}
use Rattle.bucket_slots.specs.declared.bucket.TheConstants.{MAP}
use Rattle.bucket_table.specs.Walking.Extracting.{Extracts}
use Rattle.collections.specs.Extracting.{AsksKey}
use Rattle.collections.proofs.Picking.{askable_still, inside_asked}
use Rattle.collections.proofs.hash_set.iter.next_key.Goals as goal

pub fact_asks-requires : goal.fact_asks-requires
fact_asks-requires g c = record {
  callable = mut_by _ (λ s. always_mut g.F.FnMut s.0.now) (λ s a i. i)
      (λ s a r t i e. mut_next g.F.FnMut _ _ _ _ _ e.met.1.called refl i) _ c.requires.callable;
}

-- the function that the closure borrows is the same one, and was called with the keys
went : (g : _) (c : goal.After-test-1 g) → (c.test-1.given.0 ≡ c.extract_next.new.pick.0.now)
    × Extracts MAP (AsksKey g.F.FnMut) c.args.test.now c.args.taken.now c.extract_next.result c.extract_next.new.self
    c.extract_next.new.pick.0.now
went g c =
    let did = c.extract_next.ensures.extracted in
    let all = inside_asked (λ s. s.0.now) (λ s. s.0.ghost_name ≡ c.pick-1.given) _ (AsksKey g.F.FnMut)
    (λ s own before answer after t kept e. (e.met.0 ∙ kept, (e.met.1, refl))) _ _ _ _ _ _ refl did.asked in (
      c.test-1.given.1 (sym all.0),
      record {
        kept = did.kept;
        asked = all.1;
        stay = did.stay;
        one_map = did.one_map;
        others = did.others;
        current = did.current;
        linked = did.linked;
      },
    )

pub returns-clause-again : goal.returns-clause-again
returns-clause-again g c = rw (went g c).0 (askable_still g.F.FnMut _ _ _ _ _ _ (went g c).1.asked c.requires.callable)

pub returns-clause-extracted : goal.returns-clause-extracted
returns-clause-extracted g c = rw (went g c).0 (went g c).1
