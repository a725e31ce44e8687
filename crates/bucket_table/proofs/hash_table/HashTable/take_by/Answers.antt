use Rattle.bucket_table.proofs.Words.{Old, Some, ap, refl, ◌∙◌}
use Rattle.bucket_table.specs.Map.MapState.{state_of}
use Rattle.bucket_table.proofs.Map.TakingOn.{taken_from, taken_last}
use Rattle.bucket_table.proofs.Map.Counted.{counted_after, len_takes}
use Rattle.bucket_table.proofs.hash_table.HashTable.take_by.Goals as goal

pub invariant_of-self : goal.invariant_of-self
invariant_of-self g c =
    let prepared = rw (← c.self.view_is) at c.fetch_home-ready.ensures.prepared in
    let x = taken_from g.met.K.Eq.laws g.H.KeyHash.hash_of g.row.TYPE (g.P.KeyProbe.matches c.args.probe.now) c.args.hash
    c.self.inside.hasher
    c.args.self.now c.self.inside.arrays c.self.invariant.one_map prepared c.pairs_left-pairs.result Old c.in-Some.pair
    c.search_and_take.new.self c.in-Some.ensures.taken in
    counted_after c.self.invariant x.one_map 1 0 (len_takes g.row.TYPE c.self.inside.hasher c.self.inside.arrays
    c.search_and_take.new.self (g.P.KeyProbe.matches c.args.probe.now)
    (state_of g.row.TYPE c.args.self.now) (Some c.in-Some.pair) 1 refl prepared.map x.map) c.count_taken.ensures

pub returns-in-Some-clause-map : goal.returns-in-Some-clause-map
returns-in-Some-clause-map g c =
    let prepared = rw (← c.self.view_is) at c.fetch_home-ready.ensures.prepared in
    (taken_from g.met.K.Eq.laws g.H.KeyHash.hash_of g.row.TYPE (g.P.KeyProbe.matches c.args.probe.now) c.args.hash c.self.inside.hasher
    c.args.self.now c.self.inside.arrays c.self.invariant.one_map prepared c.pairs_left-pairs.result Old c.in-Some.pair
    c.search_and_take.new.self c.in-Some.ensures.taken).map

pub returns-in-Some-clause-arrays : goal.returns-in-Some-clause-arrays
returns-in-Some-clause-arrays g c =
    let prepared = rw (← c.self.view_is) at c.fetch_home-ready.ensures.prepared in
    rw (← c.pairs_left-pairs.ensures) (taken_from g.met.K.Eq.laws g.H.KeyHash.hash_of g.row.TYPE (g.P.KeyProbe.matches c.args.probe.now)
    c.args.hash c.self.inside.hasher c.args.self.now c.self.inside.arrays c.self.invariant.one_map prepared c.pairs_left-pairs.result Old
    c.in-Some.pair c.search_and_take.new.self c.in-Some.ensures.taken).arrays

pub invariant_of-self-2 : goal.invariant_of-self-2
invariant_of-self-2 g c =
    let prepared = rw (← c.self.view_is) at c.fetch_home-ready.ensures.prepared in
    let first = c.in_default.ensures in
    let x = taken_last g.met.K.Eq.laws g.H.KeyHash.hash_of g.row.TYPE (g.P.KeyProbe.matches c.args.probe.now) c.args.hash
    c.self.inside.hasher
    c.args.self.now c.self.inside.arrays c.self.invariant.one_map prepared c.pairs_left-pairs.result c.take_on-taken.result
    c.search_and_take.new.self c.take_on-taken.new.self _
    (λ k wanted. ap (λ h. g.H.KeyHash.hash_of h k) (ap (λ m. m.hasher) prepared.map.others) ∙ c.requires.own_hash k wanted)
    first.fixed first.taken c.take_on-taken.ensures.taken in
    counted_after c.self.invariant x.one_map _ 0
    (len_takes g.row.TYPE c.self.inside.hasher c.self.inside.arrays c.take_on-taken.new.self (g.P.KeyProbe.matches c.args.probe.now)
    (state_of g.row.TYPE c.args.self.now) c.take_on-taken.result _ refl prepared.map x.map)
    c.count_removal.ensures

pub returns-clause-map : goal.returns-clause-map
returns-clause-map g c =
    let prepared = rw (← c.self.view_is) at c.fetch_home-ready.ensures.prepared in
    let first = c.in_default.ensures in
    (taken_last g.met.K.Eq.laws g.H.KeyHash.hash_of g.row.TYPE (g.P.KeyProbe.matches c.args.probe.now) c.args.hash c.self.inside.hasher
    c.args.self.now c.self.inside.arrays c.self.invariant.one_map prepared c.pairs_left-pairs.result c.take_on-taken.result
    c.search_and_take.new.self c.take_on-taken.new.self _
    (λ k wanted. ap (λ h. g.H.KeyHash.hash_of h k) (ap (λ m. m.hasher) prepared.map.others) ∙ c.requires.own_hash k wanted)
    first.fixed first.taken c.take_on-taken.ensures.taken).map

pub returns-clause-arrays : goal.returns-clause-arrays
returns-clause-arrays g c =
    let prepared = rw (← c.self.view_is) at c.fetch_home-ready.ensures.prepared in
    let first = c.in_default.ensures in
    rw (← c.pairs_left-pairs.ensures) (taken_last g.met.K.Eq.laws g.H.KeyHash.hash_of g.row.TYPE (g.P.KeyProbe.matches c.args.probe.now)
    c.args.hash c.self.inside.hasher c.args.self.now c.self.inside.arrays c.self.invariant.one_map prepared c.pairs_left-pairs.result
    c.take_on-taken.result c.search_and_take.new.self c.take_on-taken.new.self _
    (λ k wanted. ap (λ h. g.H.KeyHash.hash_of h k) (ap (λ m. m.hasher) prepared.map.others) ∙ c.requires.own_hash k wanted)
    first.fixed first.taken c.take_on-taken.ensures.taken).arrays
