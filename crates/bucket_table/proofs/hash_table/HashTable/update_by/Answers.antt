use Rattle.bucket_table.proofs.Words.{refl}
use Rattle.bucket_table.specs.Map.MapState.{state_of}
use Rattle.bucket_table.proofs.Scripts.CallSteps.{then_changed}
use Rattle.bucket_table.proofs.Map.TakeSteps.{same_taken, shown_before}
use Rattle.bucket_table.proofs.hash_table.HashTable.update_by.Goals as goal

pub returns-in-Some-clause-map : goal.returns-in-Some-clause-map
returns-in-Some-clause-map g c =
    let stands = c.in-Some.ensures.found in
    let e = c.entry_mut_at-value.ensures in (
      _,
      _,
      _,
      c.change.ensures,
      same_taken (g.P.KeyProbe.matches c.args.probe.now) _ _ stands.pair _ stands.slot stands.there e.pair,
      then_changed (state_of g.row.TYPE c.args.self.now) (state_of g.row.TYPE c.fetch_spot.new.self) _ _ _
          c.fetch_spot.ensures.prepared.map (e.map c.change.new.arg3),
    )

pub returns-in-None-clause-map : goal.returns-in-None-clause-map
returns-in-None-clause-map g c = (c.in-None.ensures.absent, c.fetch_spot.ensures.prepared.map)

pub returns-in-Some-clause-arrays : goal.returns-in-Some-clause-arrays
returns-in-Some-clause-arrays g c = record {
  between = c.fetch_spot.new.self;
  prepared = c.fetch_spot.ensures.prepared;
  done = (c.change.new.arg3, (c.in-Some.spot.side, c.in-Some.spot.index, c.in-Some.spot.at, c.in-Some.ensures.found, refl));
}

pub returns-in-None-clause-arrays : goal.returns-in-None-clause-arrays
returns-in-None-clause-arrays g c = record { between = c.fetch_spot.new.self; prepared = c.fetch_spot.ensures.prepared; done = refl }

pub change-requires : goal.change-requires
change-requires g c =
    let stands = c.in-Some.ensures.found in
    c.requires.callable _ _ (shown_before (g.P.KeyProbe.matches c.args.probe.now) (state_of g.row.TYPE c.args.self.now)
    (state_of g.row.TYPE c.fetch_spot.new.self) _ stands.pair _ c.fetch_spot.ensures.prepared.map stands.slot stands.there
    c.entry_mut_at-value.ensures.pair)
