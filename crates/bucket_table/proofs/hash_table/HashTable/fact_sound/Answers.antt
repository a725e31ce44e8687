use Rattle.bucket_table.proofs.Walking.CursorSteps.{no_map}
use Rattle.bucket_table.proofs.hash_table.HashTable.fact_sound.Goals as goal

pub returns-clause-empty : goal.returns-clause-empty
returns-clause-empty g c = rw (← c.self.view_is) (no_map c.self.inside.arrays c.fact_sound.ensures)
