-- The lines of a text.
use Rattle.std.specs.Prelude.{ℕ, ◌==◌, cond, List, [], ◌∷◌}
use Rattle.std.specs.List.{onto_first}

-- a newline ends a line, and any other byte is put before the line that follows it, which may be the last one and have no newline
abbrev pub lines_of : List ℕ → List (List ℕ)
lines_of [] = []
lines_of (byte ∷ bytes) = cond (byte == 10) ([] ∷ lines_of bytes) (onto_first byte (lines_of bytes))
