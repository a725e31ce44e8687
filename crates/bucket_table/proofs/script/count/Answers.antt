use Rattle.bucket_table.specs.Map.MapState.{state_of}
use Rattle.bucket_table.proofs.Scripts.CallSteps.{counted_before}
use Rattle.bucket_table.proofs.Map.OpenTickets.{bag_counted}
use Rattle.bucket_table.proofs.script.count.Goals as goal

pub returns-clause-step : goal.returns-clause-step
returns-clause-step g c = (
  counted_before c.num_entries.result (state_of g.row.TYPE c.args.table.now) (state_of g.row.TYPE c.num_entries.new.self)
      c.num_entries.ensures.map c.num_entries.ensures.count,
  c.num_entries.ensures.map,
)

pub returns-clause-tickets : goal.returns-clause-tickets
returns-clause-tickets g c = bag_counted _ _ c.num_entries.ensures.arrays
