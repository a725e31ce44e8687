-- Text that waits for an output.
use Rattle.std.specs.Prelude.{ℕ, List, Option}
use Rattle.std.specs.Io.KnownBytes.{Appends, append_known}

-- the output, followed by the waiting text, grew by a text
abbrev pub HasPut : Option (List ℕ) → List ℕ → Option (List ℕ) → List ℕ → List ℕ → Type 0
HasPut old waited new waits text = Appends (append_known old waited) (append_known new waits) text
