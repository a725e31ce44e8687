-- What a script leaves in its output.
use Rattle.std.specs.Prelude.{ℕ, ◌≡◌, ◌⊎◌, ◌+◌, List, [], ◌∷◌, ◌++◌, Option, None, IfSome, codes, length}
use Rattle.std.specs.Io.KnownBytes.{Appends, append_known}
use Rattle.bhtable.specs.Answers.{AreAnswers, IsUnreadable, ScriptTable}
use Rattle.bhtable.specs.InputLines.{lines_of}
use Rattle.bhtable.specs.OutputLines.{line_of}
use Rattle.bhtable.specs.Texts.{bad_line}

-- the output grew by the answers of all these lines, and then by `last`
pub record HasAnswered (lines : List (List ℕ)) (old new : Option (List ℕ)) (last : List ℕ) : Type 0 where
  pub text : List ℕ
  pub table : Option ScriptTable
  pub answers : AreAnswers None lines text table
  pub written : Appends old new (text ++ last)

-- the output grew by the answers of the first lines, and then by `last`
pub record HasAnsweredSome (lines : List (List ℕ)) (old new : Option (List ℕ)) (last : List ℕ) : Type 0 where
  pub first : List (List ℕ)
  pub others : List (List ℕ)
  pub in_order : lines ≡ first ++ others
  pub answered : HasAnswered first old new last

-- the output grew by the answers of the lines before one that can't be read, and then by its number
pub record HasBadLine (lines : List (List ℕ)) (old new : Option (List ℕ)) : Type 0 where
  pub first : List (List ℕ)
  pub line : List ℕ
  pub others : List (List ℕ)
  pub in_order : lines ≡ first ++ line ∷ others
  pub answered : HasAnswered first old new (bad_line (length first + 1))
  pub unreadable : IsUnreadable answered.table line

-- a whole output: every line was answered at 0, every line before the one that is named at 2, and the first lines at 3 and 4
abbrev pub IsWhole : List (List ℕ) → Option (List ℕ) → Option (List ℕ) → ℕ → Type 0
IsWhole lines old new status =
    ((status ≡ 0) × HasAnswered lines old new [])
    ⊎ ((status ≡ 2) × HasBadLine lines old new)
    ⊎ ((status ≡ 3) × HasAnsweredSome lines old new (line_of (codes "no memory")))
    ⊎ ((status ≡ 4) × HasAnsweredSome lines old new (line_of (codes "input failed")))

-- the output grew by `written`, and with `rest` behind that it would be whole
pub record HasBegun (lines : List (List ℕ)) (old new : Option (List ℕ)) : Type 0 where
  pub written : List ℕ
  pub rest : List ℕ
  pub status : ℕ
  pub grown : Appends old new written
  pub whole : IsWhole lines old (append_known new rest) status

-- the output is whole, or, if a write failed, a prefix of a whole one, and the status is 4
abbrev pub IsOutputOf : List (List ℕ) → Option (List ℕ) → Option (List ℕ) → ℕ → Type 0
IsOutputOf lines old new status = IsWhole lines old new status ⊎ ((status ≡ 4) × HasBegun lines old new)

-- an input, whose bytes may be known, was answered so, with this status
abbrev pub IsServed : Option (List ℕ) → Option (List ℕ) → Option (List ℕ) → ℕ → Type 0
IsServed input old new status = (bytes : List ℕ) × IfSome input (λ all. all ≡ bytes) × IsOutputOf (lines_of bytes) old new status
