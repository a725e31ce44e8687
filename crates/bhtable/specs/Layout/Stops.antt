-- What is in the output when a script ends, even before its input does.
use Rattle.std.specs.Prelude.{ℕ, ◌≡◌, ◌⊎◌, List, [], Option, IfSome, codes}
use Rattle.std.specs.Io.KnownBytes.{Appends}
use Rattle.bhtable.specs.Growing.{IsCutOff}
use Rattle.bhtable.specs.Outputs.{HasAnsweredSome, HasBadLine, HasBegun}
use Rattle.bhtable.specs.OutputLines.{line_of}
use Rattle.bhtable.specs.declared.stop.Stop.{Stop}
use Rattle.bhtable.specs.declared.stop.Stop.TheVariants.{BadLine, NoMemory, InputFailed, OutputFailed}

-- the bytes are those that a reader has left, if they are known
abbrev pub IsInput : Option (List ℕ) → List ℕ → Type 0
IsInput known bytes = IfSome known (λ all. all ≡ bytes)

-- allocation failed, or the output can't be written
abbrev pub IsLack : Stop → Type 0
IsLack (BadLine number) = ⊥
IsLack NoMemory = Unit {0}
IsLack InputFailed = ⊥
IsLack OutputFailed = Unit {0}

-- the output up to a stop, before a last line that reports it; a writer that failed has a prefix
abbrev pub IsOutputUpTo : Stop → List (List ℕ) → Option (List ℕ) → Option (List ℕ) → Type 0
IsOutputUpTo (BadLine number) lines old new = HasBadLine lines old new
IsOutputUpTo NoMemory lines old new = HasAnsweredSome lines old new []
IsOutputUpTo InputFailed lines old new = HasAnsweredSome lines old new []
IsOutputUpTo OutputFailed lines old new = HasBegun lines old new

-- the line was written, with its status, or a prefix of it, with status 4
abbrev pub HasLast : List ℕ → ℕ → ℕ → Option (List ℕ) → Option (List ℕ) → Type 0
HasLast line told status old new = ((status ≡ told) × Appends old new line) ⊎ ((status ≡ 4) × IsCutOff old new line)

-- the status after a stop, and its last line; a bad line was reported already, and nothing is written to a writer that failed
abbrev pub IsReported : Stop → ℕ → Option (List ℕ) → Option (List ℕ) → Type 0
IsReported (BadLine number) status old new = (status ≡ 2) × (new ≡ old)
IsReported NoMemory status old new = HasLast (line_of (codes "no memory")) 3 status old new
IsReported InputFailed status old new = HasLast (line_of (codes "input failed")) 4 status old new
IsReported OutputFailed status old new = (status ≡ 4) × (new ≡ old)
