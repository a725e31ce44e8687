use Rattle.bucket_table.proofs.Map.OpenTickets.{bag_reserved}
use Rattle.bucket_table.proofs.script.reserve.Goals as goal

pub returns-clause-step : goal.returns-clause-step
returns-clause-step g c = c.reserve_capacity.ensures.map

pub returns-clause-tickets : goal.returns-clause-tickets
returns-clause-tickets g c = bag_reserved _ _ _ _ c.reserve_capacity.ensures.arrays
