-- The lines of an output.
use Rattle.std.specs.Prelude.{ℕ, List, [], ◌∷◌, ◌++◌}

-- a text, and what ends its line
abbrev pub line_of : List ℕ → List ℕ
line_of text = text ++ 10 ∷ []
