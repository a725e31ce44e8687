use Rattle.bucket_table.proofs.Words.{ap, refl, rules, sym, ◌∙◌}
use Rattle.bucket_table.specs.Map.MapState.{state_of}
use Rattle.bucket_table.proofs.Map.Replacing.{then_replaced}
use Rattle.bucket_table.proofs.Map.TakeSteps.{same_taken}
use Rattle.bucket_table.proofs.hash_table.HashTable.replace.Goals as goal

pub replace_at-requires : goal.replace_at-requires
replace_at-requires g c =
    let same = ap (λ m. g.H.KeyHash.hash_of m.hasher c.args.key) c.fetch_spot-found.ensures.prepared.map.others in
    (search rules, (search rules, (rw c.new.ensures.key at c.in-Some.ensures.found, c.hash-hash.ensures ∙ sym same)))

pub returns-in-Some-clause-map : goal.returns-in-Some-clause-map
returns-in-Some-clause-map g c =
    let keeps = c.fetch_spot-found.ensures.prepared.map in
    let stands = rw c.new.ensures.key at c.in-Some.ensures.found in (
      same_taken (λ own. g.K.PartialEq.eq own c.args.key) _ _ stands.pair c.replace_at.result stands.slot stands.there
          c.replace_at.ensures.pair,
      then_replaced (state_of g.row.TYPE c.args.self.now) (state_of g.row.TYPE c.fetch_spot-found.new.self)
          (state_of g.row.TYPE c.replace_at.new.self) c.replace_at.result (c.args.key, c.args.value) keeps c.replace_at.ensures.map,
    )

pub returns-in-None-clause-map : goal.returns-in-None-clause-map
returns-in-None-clause-map g c =
    (refl, rw c.new.ensures.key at c.in-None.ensures.absent, c.fetch_spot-found.ensures.prepared.map)

pub returns-in-Some-clause-arrays : goal.returns-in-Some-clause-arrays
returns-in-Some-clause-arrays g c =
    let stands = rw c.new.ensures.key at c.in-Some.ensures.found in
    rw (← c.hash-hash.ensures) (record {
      between = c.fetch_spot-found.new.self;
      prepared = c.fetch_spot-found.ensures.prepared;
      done = (c.in-Some.spot.side, c.in-Some.spot.index, c.in-Some.spot.at, stands, c.replace_at.ensures.table);
    })

pub returns-in-None-clause-arrays : goal.returns-in-None-clause-arrays
returns-in-None-clause-arrays g c =
    rw (← c.hash-hash.ensures) (record {
      between = c.fetch_spot-found.new.self;
      prepared = c.fetch_spot-found.ensures.prepared;
      done = refl;
    })
