-- The meanings of words, by rows of a word and its meaning.
use Rattle.std.specs.Prelude.{ℕ, ◌≡◌, List, find, MatchOption, Option, option_map}
use Rattle.std.specs.Str.{bytes_eq}
use Rattle.bhtable.specs.Words.{Part, text}

-- the meaning of the word in the first row that has it
abbrev pub meaning : {T : Type 0} → List (List ℕ × T) → List ℕ → Option T
meaning rows word = option_map (λ row. row.1) (find (λ row. bytes_eq row.0 word) rows)

-- what a part means, possibly nothing, if each meaning has a word
abbrev pub IsMeant : {T : Type 0} → (T → List ℕ) → Part → Option T → Type 0
IsMeant {T} name part meant = MatchOption meant ((value : T) → part ≡ text (name value) → ⊥) (λ value. part ≡ text (name value))
