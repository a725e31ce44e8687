-- How a text on its way to a writer changes.
use Rattle.std.specs.Prelude.{ℕ, ◌≡◌, List, [], ◌++◌, Option, MatchResult, Result}
use Rattle.std.specs.Io.KnownBytes.{Appends}
use Rattle.bhtable.specs.declared.stop.Stop.{Stop}
use Rattle.bhtable.specs.declared.stop.Stop.TheVariants.{OutputFailed}

-- a text was appended to the one that waits; the output grew by a prefix of both, and the rest is left
pub record HasGrown (old : Option (List ℕ)) (waiting : List ℕ) (new : Option (List ℕ)) (left text : List ℕ) : Type 0 where
  pub taken : List ℕ
  pub written : Appends old new taken
  pub in_order : waiting ++ text ≡ taken ++ left

-- the output grew by a prefix of a text
abbrev pub IsCutOff : Option (List ℕ) → Option (List ℕ) → List ℕ → Type 0
IsCutOff old new text = (lost : List ℕ) × HasGrown old [] new lost text

-- the output grew by a text, or, if it failed, by a prefix of one
abbrev pub IsWritten : Result (Unit {0}) Stop → Option (List ℕ) → Option (List ℕ) → List ℕ → Type 0
IsWritten result old new text = MatchResult result (λ _. Appends old new text) (λ stop. (stop ≡ OutputFailed) × IsCutOff old new text)
