use Rattle.std.proofs.Common.{refl}
use Rattle.std.proofs.Math.Logic.{∥∥₁_map}
use Rattle.collections.proofs.Picking.{goes_on, less_left, slots_kept}
use Rattle.collections.proofs.hash_set.iter.ExtractionHashSetTableExtractUnitUnitMAPIterator.next.Goals as goal

pub invariant_of-self : goal.invariant_of-self
invariant_of-self g c = record {
  fits = ∥∥₁_map c.args.self.now.fits (λ one. c.next_key.ensures.extracted.one_map g.K.PartialEq.eq g.met.K.Eq.laws _ one);
}

pub returns-in-Some-clause-steps : goal.returns-in-Some-clause-steps
returns-in-Some-clause-steps g c =
    let did = c.next_key.ensures.extracted in
    let one = ∥∥₁_map c.args.self.now.fits (λ one. did.one_map g.K.PartialEq.eq g.met.K.Eq.laws _ one) in
    record {
      same_set = refl;
      gone = c.next_key.result;
      picked_is = rw c.in-Some.is refl;
      extracted = did;
      keeps = slots_kept _ _ _ _ _ did.others one;
    }

pub returns-in-Some-clause-goes : goal.returns-in-Some-clause-goes
returns-in-Some-clause-goes g c =
    goes_on _ c.next_key.ensures.again (rw c.in-Some.is at (less_left _ _ _ _ _ _ _ c.next_key.ensures.extracted.asked))

pub returns-in-None-clause-steps : goal.returns-in-None-clause-steps
returns-in-None-clause-steps g c =
    let did = c.next_key.ensures.extracted in
    let one = ∥∥₁_map c.args.self.now.fits (λ one. did.one_map g.K.PartialEq.eq g.met.K.Eq.laws _ one) in
    record {
      same_set = refl;
      gone = c.next_key.result;
      picked_is = rw c.in-None.is refl;
      extracted = did;
      keeps = slots_kept _ _ _ _ _ did.others one;
    }
