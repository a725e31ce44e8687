use Rattle.bucket_table.specs.Map.MapState.{state_of}
use Rattle.bucket_table.proofs.Scripts.CallSteps.{some_before}
use Rattle.bucket_table.proofs.Map.OpenTickets.{bag_counted}
use Rattle.bucket_table.proofs.script.has.Goals as goal

pub returns-clause-step : goal.returns-clause-step
returns-clause-step g c = (
  some_before c.has_entry.result (state_of g.row.TYPE c.args.table.now) (state_of g.row.TYPE c.has_entry.new.self)
      c.has_entry.ensures.map c.has_entry.ensures.has,
  c.has_entry.ensures.map,
)

pub returns-clause-tickets : goal.returns-clause-tickets
returns-clause-tickets g c = bag_counted _ _ c.has_entry.ensures.arrays
