-- What is found at the front of the bytes that are read.
use Rattle.std.specs.Prelude.{ℕ, ◌≡◌, ◌+◌, ◌<◌, ◌≤◌, ◌==◌, Bool, true, false, List, [], length, take, position, MatchOption}
use Rattle.bhtable.specs.InputLines.{line_len}
use Rattle.bhtable.specs.declared.lines.Found.{Found}
use Rattle.bhtable.specs.declared.lines.Found.TheVariants.{Line, TooLong, Cut, End}

-- these bytes, which are `whole` bytes together with what ends them, are found as a line or are too many for one
abbrev pub IsFound : List ℕ → ℕ → Found → Type 0
IsFound bytes whole (Line line) = (line.whole_len ≡ whole) × (line.len ≡ line_len bytes) × (line_len bytes ≤ 4096)
IsFound bytes whole TooLong = 4096 < line_len bytes
IsFound bytes whole Cut = ⊥
IsFound bytes whole End = ⊥

-- the same if no newline is read: the bytes are a line if the input has ended
abbrev pub IsFoundUnended : Bool → List ℕ → Found → Type 0
IsFoundUnended is_ended bytes (Line line) =
    (is_ended ≡ true) × (0 < length bytes) × IsFound bytes (length bytes) (Line line)
IsFoundUnended is_ended bytes TooLong = 4096 < line_len bytes
IsFoundUnended is_ended bytes Cut = (is_ended ≡ false) × (length bytes ≤ 4097)
IsFoundUnended is_ended bytes End = (is_ended ≡ true) × (bytes ≡ [])

-- what is at the front of the bytes, up to the first newline
abbrev pub IsFoundIn : Bool → List ℕ → Found → Type 0
IsFoundIn is_ended bytes found =
    MatchOption (position (λ byte. byte == 10) bytes) (IsFoundUnended is_ended bytes found) (λ at. IsFound (take at bytes) (at + 1) found)

-- a line that was found is contained whole in the bytes
abbrev pub IsWithin : List ℕ → Found → Type 0
IsWithin bytes (Line line) = line.whole_len ≤ length bytes
IsWithin bytes TooLong = Unit {0}
IsWithin bytes Cut = length bytes ≤ 4097
IsWithin bytes End = Unit {0}
