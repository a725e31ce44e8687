use Rattle.bucket_table.proofs.Words.{refl}
use Rattle.bucket_table.specs.Map.MapState.{state_of}
use Rattle.bucket_table.proofs.Scripts.CallSteps.{then_changed}
use Rattle.bucket_table.proofs.Map.TakeSteps.{same_taken}
use Rattle.bucket_table.proofs.hash_table.HashTable.swap.Goals as goal

pub returns-in-Some-clause-map : goal.returns-in-Some-clause-map
returns-in-Some-clause-map g c =
    let keeps = c.fetch_spot.ensures.prepared.map in
    let stands = rw c.new.ensures.key at c.in-Some.ensures.found in
    let wrote = c.swap_at.ensures.map in (
      wrote.0,
      same_taken (λ own. g.K.PartialEq.eq own c.args.key.now) _ _ stands.pair (wrote.0, c.swap_at.result) stands.slot stands.there wrote.1,
      then_changed (state_of g.row.TYPE c.args.self.now) (state_of g.row.TYPE c.fetch_spot.new.self)
          (state_of g.row.TYPE c.swap_at.new.self) (wrote.0, c.swap_at.result) c.args.value keeps wrote.2,
    )

pub returns-in-None-clause-map : goal.returns-in-None-clause-map
returns-in-None-clause-map g c =
    (refl, rw c.new.ensures.key at c.in-None.ensures.absent, c.fetch_spot.ensures.prepared.map)

pub returns-in-Some-clause-arrays : goal.returns-in-Some-clause-arrays
returns-in-Some-clause-arrays g c =
    let stands = rw c.new.ensures.key at c.in-Some.ensures.found in
    rw (← c.hash-hash.ensures) (record {
      between = c.fetch_spot.new.self;
      prepared = c.fetch_spot.ensures.prepared;
      done = (c.in-Some.spot.side, c.in-Some.spot.index, c.in-Some.spot.at, stands, c.swap_at.ensures.table);
    })

pub returns-in-None-clause-arrays : goal.returns-in-None-clause-arrays
returns-in-None-clause-arrays g c =
    rw (← c.hash-hash.ensures) (record { between = c.fetch_spot.new.self; prepared = c.fetch_spot.ensures.prepared; done = refl })
