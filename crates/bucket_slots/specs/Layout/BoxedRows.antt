-- The rows of boxed blocks, the first one first.
use Rattle.std.specs.Prelude.{List, [], ◌∷◌, Option, None, Some, Box}
use Rattle.bucket_slots.specs.declared.bucket.blocks.Block.{Block}

abbrev pub rows_of : {T A : Type 0} → Option (Box (Block T) A) → List T
rows_of None = []
rows_of (Some block) = block.value.row ∷ block.value.next
