use Rattle.std.proofs.Common.{refl}
use Rattle.std.proofs.Math.Logic.{∥∥₁_map}
use Rattle.collections.proofs.Picking.{goes_on, less_left, slots_kept}
use Rattle.collections.proofs.hash_map.iter.ExtractionHashMapTableExtractUnitMAPIterator.next.Goals as goal

pub invariant_of-self : goal.invariant_of-self
invariant_of-self g c = record {
  fits = ∥∥₁_map c.args.self.now.fits (λ one. c.extract_next.ensures.extracted.one_map g.K.PartialEq.eq g.met.K.Eq.laws _ one);
}

pub returns-clause-steps : goal.returns-clause-steps
returns-clause-steps g c =
    let did = c.extract_next.ensures.extracted in
    let one = ∥∥₁_map c.args.self.now.fits (λ one. did.one_map g.K.PartialEq.eq g.met.K.Eq.laws _ one) in
    record { same_map = refl; extracted = did; keeps = slots_kept _ _ _ _ _ did.others one }

pub returns-clause-goes : goal.returns-clause-goes
returns-clause-goes g c =
    goes_on c.extract_next.result c.extract_next.ensures.again (less_left _ _ _ _ _ _ _ c.extract_next.ensures.extracted.asked)
