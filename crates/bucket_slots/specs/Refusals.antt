-- The pair that an insertion returns if it fails.
use Rattle.std.specs.declared.io.ErrorKind.{ErrorKind}
use Rattle.std.specs.declared.io.ErrorKind.TheVariants.{AlreadyExists, OutOfMemory}
use Rattle.bucket_slots.specs.declared.not_inserted.NotInserted.{NotInserted}
use Rattle.bucket_slots.specs.declared.not_inserted.NotInserted.TheVariants.{Present, Memory}

-- the pair, whatever the cause
abbrev pub pair_of_refusal : {K V : Type 0} → NotInserted K V → K × V
pair_of_refusal (Present key value) = (key, value)
pair_of_refusal (Memory key value) = (key, value)

-- the kind of error that states the cause
abbrev pub kind_of_refusal : {K V : Type 0} → NotInserted K V → ErrorKind
kind_of_refusal (Present key value) = AlreadyExists
kind_of_refusal (Memory key value) = OutOfMemory
