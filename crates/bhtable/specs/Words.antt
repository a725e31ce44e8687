-- The words of a line.
use Rattle.std.specs.Prelude.{ℕ, List, [], ◌∷◌, ◌++◌, Bool, ◌==◌, ◌||◌, cond, map}
use Rattle.bhtable.specs.Numbers.{is_number, value_of}

-- a space or a tab
abbrev pub is_blank : ℕ → Bool
is_blank byte = (byte == 32) || (byte == 9)

-- a word before others, unless it is empty
abbrev pub with_word : List ℕ → List (List ℕ) → List (List ℕ)
with_word [] words = words
with_word (byte ∷ bytes) words = (byte ∷ bytes) ∷ words

-- the words of the bytes, if those of `word` come right before them
abbrev pub words_after : List ℕ → List ℕ → List (List ℕ)
words_after word [] = with_word word []
words_after word (byte ∷ bytes) =
    cond (is_blank byte) (with_word word (words_after [] bytes)) (words_after (word ++ byte ∷ []) bytes)

-- what is between blanks
abbrev pub words_of : List ℕ → List (List ℕ)
words_of bytes = words_after [] bytes

-- a part of a line: a number, or another text
pub data Part : Type 0 where
  number : ℕ → Part
  text : List ℕ → Part

-- the part that a word is
unfoldable pub part_of : List ℕ → Part
part_of bytes = cond (is_number bytes) (number (value_of bytes)) (text bytes)

-- the words of the bytes, as parts of a line
abbrev pub parts_of : List ℕ → List Part
parts_of bytes = map part_of (words_of bytes)
