use Rattle.bucket_table.specs.Map.MapState.{state_of}
use Rattle.bucket_table.proofs.Map.TakeSteps.{absent_before}
use Rattle.bucket_table.proofs.hash_table.HashTable.fetch_spot.Goals as goal

pub returns-in-Err-clause-absent : goal.returns-in-Err-clause-absent
returns-in-Err-clause-absent g c =
    absent_before (g.P.KeyProbe.matches c.args.probe.now) (state_of g.row.TYPE c.args.self.now)
    (state_of g.row.TYPE c.fetch_place.new.self) c.fetch_place.ensures.prepared.map c.in-Err.ensures.absent
