-- What appending lines does to the replies that wait and to their writer.
use Rattle.std.specs.Prelude.{ℕ, ◌≡◌, List, [], ◌∷◌, ◌++◌, Option, MatchResult, Ok, Result}
use Rattle.bucket_table.specs.declared.script.reply.Reply.{Reply}
use Rattle.bhtable.specs.Growing.{HasGrown}
use Rattle.bhtable.specs.OutputLines.{line_of}
use Rattle.bhtable.specs.Texts.{bad_line, text_of}
use Rattle.bhtable.specs.declared.stop.Stop.{Stop}
use Rattle.bhtable.specs.declared.stop.Stop.TheVariants.{BadLine, NoMemory, InputFailed, OutputFailed}

-- the lines of replies
abbrev pub lines_of_replies : List (Reply ℕ ℕ) → List ℕ
lines_of_replies [] = []
lines_of_replies (reply ∷ replies) = line_of (text_of reply) ++ lines_of_replies replies

-- these lines were appended before an allocation failed, or before the writer failed, which loses the waiting text
abbrev pub IsLeftBy : Stop → Option (List ℕ) → List ℕ → Option (List ℕ) → List ℕ → List ℕ → Type 0
IsLeftBy (BadLine number) old waiting new left lines = ⊥
IsLeftBy NoMemory old waiting new left lines = HasGrown old waiting new left lines
IsLeftBy InputFailed old waiting new left lines = ⊥
IsLeftBy OutputFailed old waiting new left lines = (left ≡ []) × ((lost : List ℕ) × HasGrown old waiting new lost lines)

-- the line was appended, or nothing was
abbrev pub IsPushed : Result (Unit {0}) Stop → Option (List ℕ) → List ℕ → Option (List ℕ) → List ℕ → List ℕ → Type 0
IsPushed result old waiting new left line =
    MatchResult result (λ _. HasGrown old waiting new left line) (λ stop. IsLeftBy stop old waiting new left [])

-- the lines of all these replies were appended, or those of the first ones
abbrev pub ArePushed : Result (Unit {0}) Stop → Option (List ℕ) → List ℕ → Option (List ℕ) → List ℕ → List (Reply ℕ ℕ) → Type 0
ArePushed result old waiting new left replies =
    (first : List (Reply ℕ ℕ)) × (others : List (Reply ℕ ℕ)) × (replies ≡ first ++ others)
    × MatchResult result (λ _. (others ≡ []) × HasGrown old waiting new left (lines_of_replies first))
    (λ stop. IsLeftBy stop old waiting new left (lines_of_replies first))

-- the line `bad line N` was appended after a stop at a bad line, and nothing after another stop
abbrev pub IsTold : Stop → Result (Unit {0}) Stop → Option (List ℕ) → List ℕ → Option (List ℕ) → List ℕ → Type 0
IsTold (BadLine number) result old waiting new left = IsPushed result old waiting new left (bad_line number)
IsTold NoMemory result old waiting new left = (result ≡ Ok tt) × (new ≡ old) × (left ≡ waiting)
IsTold InputFailed result old waiting new left = (result ≡ Ok tt) × (new ≡ old) × (left ≡ waiting)
IsTold OutputFailed result old waiting new left = (result ≡ Ok tt) × (new ≡ old) × (left ≡ waiting)
