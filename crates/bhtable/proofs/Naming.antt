-- What a look-up in rows of words and meanings states about the word.
use Rattle.std.proofs.Common.{◌≡◌, ℕ, Bool, true, false, cond, find, option_map, List, [], ◌∷◌, Option, Some, None, IfSome, refl, sym, ap}
use Rattle.std.proofs.Common.{◌∙◌}
use lib.Pointwise.{bytes_decides}
use Rattle.std.specs.Prelude.{⊤}
use Rattle.std.specs.Str.{bytes_eq}
use Rattle.bhtable.specs.Meanings.{IsMeant}
use Rattle.bhtable.specs.Meanings.{meaning}
use Rattle.bhtable.specs.Words.{part_of, text}
use Rattle.bhtable.proofs.Parts.{word_written}

-- the word of each row is that of its meaning
abbrev pub AreNamed : {T : Type 0} → (T → List ℕ) → List (List ℕ × T) → Type 0
AreNamed name [] = ⊤
AreNamed name (row ∷ rows) = (row.0 ≡ name row.1) × AreNamed name rows

named_by_row : {T : Type 0} (name : T → List ℕ) (row : List ℕ × T) (later : Option (List ℕ × T)) (word : List ℕ) (b : Bool)
    → bytes_eq row.0 word ≡ b → row.0 ≡ name row.1 → IfSome (option_map (λ row. row.1) later) (λ value. word ≡ name value)
    → IfSome (option_map (λ row. row.1) (cond b (Some row) later)) (λ value. word ≡ name value)
named_by_row name row later word true same named others = sym ((bytes_decides row.0 word).0 same) ∙ named
named_by_row name row later word false other named others = others

-- then a word that has a meaning is the word of that
pub named_by_meaning : {T : Type 0} (name : T → List ℕ) (rows : List (List ℕ × T)) (word : List ℕ) → AreNamed name rows
    → IfSome (meaning rows word) (λ value. word ≡ name value)
named_by_meaning name [] word named = tt
named_by_meaning name (row ∷ rows) word named =
    named_by_row name row (find (λ row. bytes_eq row.0 word) rows) word (bytes_eq row.0 word) refl named.0
    (named_by_meaning name rows word named.1)

meant_by : {T : Type 0} (name : T → List ℕ) (rows : List (List ℕ × T)) (bytes : List ℕ) (found : Option T) → meaning rows bytes ≡ found
    → IfSome found (λ value. bytes ≡ name value) → ((value : T) → meaning rows (name value) ≡ Some value)
    → ((value : T) → part_of (name value) ≡ text (name value)) → IsMeant name (part_of bytes) found
meant_by name rows bytes (Some value) same named known plain = ap part_of named ∙ plain value
meant_by name rows bytes None same named known plain = λ value part_is.
    let named : bytes ≡ name value = word_written bytes (name value) part_is in
    let none : Some value ≡ None = sym (known value) ∙ ap (meaning rows) (sym named) ∙ same in
    absurd (cc)

-- so the rows give what a part means, if each meaning is found by its word
pub meant : {T : Type 0} (name : T → List ℕ) (rows : List (List ℕ × T)) (bytes : List ℕ) → AreNamed name rows
    → ((value : T) → meaning rows (name value) ≡ Some value) → ((value : T) → part_of (name value) ≡ text (name value))
    → IsMeant name (part_of bytes) (meaning rows bytes)
meant name rows bytes named = meant_by name rows bytes (meaning rows bytes) refl (named_by_meaning name rows bytes named)
