use Rattle.bucket_slots.proofs.Words.{ap, arith, first_from, flattened, has_byte, is_match, refl, sum_by-append, sym, ◌∙◌}
use Rattle.bucket_slots.proofs.Counting.{tally}
use Rattle.bucket_slots.proofs.FirstPlaces.{first_chain}
use Rattle.bucket_slots.proofs.PairsAfter.{live_from_pair}
use Rattle.bucket_slots.proofs.bucket.Bucket.find_among.Goals as goal

pub returns-in-Some-clause-place : goal.returns-in-Some-clause-place
returns-in-Some-clause-place g c = rw (c.at.ensures, ← c.self.view_is, ← c.in-Some.ensures.place) refl

pub returns-in-Some-clause-pair : goal.returns-in-Some-clause-pair
returns-in-Some-clause-pair g c = rw (c.at.ensures, ← c.self.view_is) c.in-Some.ensures.pair

pub returns-in-Some-clause-few : goal.returns-in-Some-clause-few
returns-in-Some-clause-few g c =
    let parts = sum_by-append (λ x. tally (has_byte c.args.byte x)) c.self.inside.own (flattened c.self.inside.chain) in
    rw (← c.self.view_is) (omega (arith, c.find_among.ensures.few, parts))

pub returns-in-None-clause-place : goal.returns-in-None-clause-place
returns-in-None-clause-place g c =
    let test = is_match (g.P.KeyProbe.matches c.args.probe.now) c.args.byte in
    let none = rw (← c.self.view_is) at c.requires.chainless in
    rw (← c.self.view_is)
    (ap (first_from test 1) (sym none) ∙ first_chain test c.self.inside.own c.self.inside.chain c.in-None.ensures.place)

pub returns-in-None-clause-few : goal.returns-in-None-clause-few
returns-in-None-clause-few g c =
    let parts = sum_by-append (λ x. tally (has_byte c.args.byte x)) c.self.inside.own (flattened c.self.inside.chain) in
    rw (← c.self.view_is) (omega (arith, c.find_among.ensures.few, parts))

pub returns-in-Some-clause-live : goal.returns-in-Some-clause-live
returns-in-Some-clause-live g c = rw (c.at.ensures, ← c.self.view_is) (live_from_pair _ _ c.in-Some.ensures.pair)
