use Rattle.bucket_slots.proofs.Words.{arith, flattened, has_byte, is_match, length, live_pairs, refl, sum_by-append, sym, ◌%◌, ◌∙◌, ◌≡◌}
use Rattle.bucket_slots.proofs.Counting.{tally}
use Rattle.bucket_slots.proofs.FilledPlaces.{low_byte_fits}
use Rattle.bucket_slots.proofs.FirstPlaces.{first_chain, found_in_chain, none_live}
use Rattle.bucket_slots.proofs.bucket.Bucket.find_by.Goals as goal

pub returns-clause-place : goal.returns-clause-place
returns-clause-place g c =
    let test = is_match (g.P.KeyProbe.matches c.args.probe.now) (c.args.hash % 256) in
    rw (c.find_by-2.ensures.place, c.find_by.ensures.fixed, ← c.self.view_is)
    (first_chain test c.self.inside.own c.self.inside.chain c.in_default.ensures.place)

pub returns-then-self-eq0-clause-place : goal.returns-then-self-eq0-clause-place
returns-then-self-eq0-clause-place g c =
    let matches = g.P.KeyProbe.matches c.args.probe.now in
    let byte = c.args.hash % 256 in
    let empty : length (live_pairs (flattened c.self.inside.chain)) ≡ 0 = omega (arith, c.self.invariant.1.counted, c.if-self-eq0.true) in
    rw (← c.self.view_is) (sym (none_live matches byte 1 c.self.inside.chain empty)
    ∙ first_chain (is_match matches byte) c.self.inside.own c.self.inside.chain c.in_default.ensures.place)

pub returns-clause-pair : goal.returns-clause-pair
returns-clause-pair g c =
    found_in_chain _ _ c.args.self.now c.find_by-2.result c.self.view_is c.find_by-2.ensures.place c.find_by-2.ensures.pair

pub overflow_cast-byte : goal.overflow_cast-byte
overflow_cast-byte g c = low_byte_fits c.args.hash

pub returns-in-Some-clause-pair : goal.returns-in-Some-clause-pair
returns-in-Some-clause-pair g c = rw (c.at.ensures, ← c.self.view_is) c.in-Some.ensures.pair

pub returns-in-Some-clause-fixed : goal.returns-in-Some-clause-fixed
returns-in-Some-clause-fixed g c = c.find_by.ensures.fixed

pub returns-clause-fixed : goal.returns-clause-fixed
returns-clause-fixed g c = c.find_by-2.ensures.fixed ∙ c.find_by.ensures.fixed

pub returns-in-Some-clause-place : goal.returns-in-Some-clause-place
returns-in-Some-clause-place g c = rw (c.at.ensures, ← c.self.view_is, ← c.in-Some.ensures.place) refl

pub returns-in-Some-clause-few : goal.returns-in-Some-clause-few
returns-in-Some-clause-few g c =
    let byte = c.args.hash % 256 in
    let parts = sum_by-append (λ x. tally (has_byte byte x)) c.self.inside.own (flattened c.self.inside.chain) in
    rw (← c.self.view_is) (omega (arith, c.find_by.ensures.few, parts))

pub returns-clause-few : goal.returns-clause-few
returns-clause-few g c =
    let byte = c.args.hash % 256 in
    let parts = sum_by-append (λ x. tally (has_byte byte x)) c.self.inside.own (flattened c.self.inside.chain) in
    rw (← c.self.view_is) (omega (arith, c.find_by.ensures.few, c.find_by-2.ensures.few, parts))
