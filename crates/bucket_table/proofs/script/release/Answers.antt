use Rattle.bucket_table.proofs.Map.OpenTickets.{bag_released}
use Rattle.bucket_table.proofs.script.release.Goals as goal

pub returns-clause-step : goal.returns-clause-step
returns-clause-step g c = c.release_capacity.ensures.map

pub returns-clause-tickets : goal.returns-clause-tickets
returns-clause-tickets g c = bag_released _ _ _ _ c.release_capacity.ensures.arrays
