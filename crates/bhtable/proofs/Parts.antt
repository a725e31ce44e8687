-- Words as parts of a line.
use Rattle.std.proofs.Common.{◌≡◌, ℕ, List, ◌∷◌, true, false, inl, inr, is_some, IfSome, MatchOption, Option, None, Some, refl, sym}
use Rattle.std.proofs.lemmas.Bool.{cases_Bool}
use Rattle.bhtable.specs.Numbers.{is_number, value_of}
use Rattle.bhtable.specs.Words.{Part, number, part_of, text}

pub part_of-number : (bytes : List ℕ) → is_number bytes ≡ true → part_of bytes ≡ number (value_of bytes)
unfolding part_of
part_of-number bytes digits = rw digits refl

pub part_of-text : (bytes : List ℕ) → is_number bytes ≡ false → part_of bytes ≡ text bytes
unfolding part_of
part_of-text bytes other = rw other refl

-- a word that is a text is this text
pub word_written : (bytes letters : List ℕ) → part_of bytes ≡ text letters → bytes ≡ letters
word_written bytes letters same = elim (cases_Bool (is_number bytes)) [
  | inl digits ↦ let is = part_of-number bytes digits in absurd (cc)
  | inr other ↦ let is = part_of-text bytes other in cc
]

-- the next word is a number or not
pub number_next : (old new : List Part) (bytes : List ℕ) (found : Option ℕ) → old ≡ part_of bytes ∷ new → is_some found ≡ is_number bytes
    → IfSome found (λ value. value ≡ value_of bytes)
    → MatchOption found ((value : ℕ) (rest : List Part) → old ≡ number value ∷ rest → ⊥) (λ value. old ≡ number value ∷ new)
number_next old new bytes None next accepted value_is = λ value rest same. let is = part_of-text bytes (sym accepted) in absurd (cc)
number_next old new bytes (Some value) next accepted value_is = let is = part_of-number bytes (sym accepted) in cc
