use Rattle.bucket_table.proofs.Words.{refl}
use Rattle.bucket_table.specs.Map.MapState.{state_of}
use Rattle.bucket_table.proofs.Scripts.CallSteps.{there_before}
use Rattle.bucket_table.proofs.Map.TakeSteps.{absent_before}
use Rattle.bucket_table.proofs.hash_table.HashTable.touch_by.Goals as goal

pub returns-clause-map : goal.returns-clause-map
returns-clause-map g c =
    let stands = c.in-Ok.ensures.found in
    let keeps = c.touch_place.ensures.map in (
      (
        stands.pair,
        there_before (g.P.KeyProbe.matches c.args.probe.now) (state_of g.row.TYPE c.args.self.now) _ stands.pair keeps
            stands.there,
      ),
      keeps,
    )

pub returns-clause-arrays : goal.returns-clause-arrays
returns-clause-arrays g c =
    let spot = c.in-Ok.field-0 in
    let touched = c.in-Ok.ensures.touched in
    record {
      between = touched.between;
      prepared = touched.prepared;
      done = (spot.side, spot.index, spot.at, touched.done.0, touched.done.1);
    }

pub returns-in_default-clause-map : goal.returns-in_default-clause-map
returns-in_default-clause-map g c =
    let keeps = c.touch_place.ensures.map in
    (absent_before (g.P.KeyProbe.matches c.args.probe.now) (state_of g.row.TYPE c.args.self.now) _ keeps c.in_default.ensures.absent, keeps)

pub returns-in_default-clause-arrays : goal.returns-in_default-clause-arrays
returns-in_default-clause-arrays g c = record { between = c.touch_place.new.self; prepared = c.in_default.ensures.prepared; done = refl }
