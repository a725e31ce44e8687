-- The lines of an input.
use Rattle.std.specs.Prelude.{ℕ, ◌-◌, List, [], ◌∷◌, ◌++◌, ◌==◌, cond, if◌then◌else◌, length, slice_index, take}

-- how many bytes of a line count: all except one carriage return at their end
abbrev pub line_len : List ℕ → ℕ
line_len bytes = if slice_index bytes (length bytes - 1) == 13 then length bytes - 1 else length bytes

-- the bytes of a line, without one carriage return at their end
abbrev pub without_return : List ℕ → List ℕ
without_return bytes = take (line_len bytes) bytes

-- the bytes after the last newline, if any, are a line
abbrev pub last_line : List ℕ → List (List ℕ)
last_line [] = []
last_line (byte ∷ bytes) = without_return (byte ∷ bytes) ∷ []

-- the lines of the bytes, if those of `line` come right before them
abbrev pub lines_after : List ℕ → List ℕ → List (List ℕ)
lines_after line [] = last_line line
lines_after line (byte ∷ bytes) =
    cond (byte == 10) (without_return line ∷ lines_after [] bytes) (lines_after (line ++ byte ∷ []) bytes)

-- the parts that newlines end, and then the last line
abbrev pub lines_of : List ℕ → List (List ℕ)
lines_of bytes = lines_after [] bytes
