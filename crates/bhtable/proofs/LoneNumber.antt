-- A line that consists of a number only.
use Rattle.std.proofs.Common.{◌≡◌, ℕ, List, [], ◌∷◌, ◌++◌, true, false, is_some, IfSome, Option, Some, None}
use Rattle.std.proofs.Common.{map, sym, ap, ◌∙◌, arith, append-nil, append_assoc}
use Rattle.std.proofs.lemmas.Bool.{and_parts}
use Rattle.std.proofs.lemmas.Bool.Decides.{nat_tests}
use Rattle.std.specs.Char.{is_ascii_digit}
use Rattle.std.specs.Str.{all_ascii_digits}
use Rattle.bhtable.specs.Numbers.{is_number, value_of}
use Rattle.bhtable.specs.Words.{Part, is_blank, number, part_of, parts_of, with_word, words_after, words_of}
use Rattle.bhtable.proofs.Numbers.{number_parts}
use Rattle.bhtable.proofs.Parts.{part_of-number}

digit_is_no_blank : (byte : ℕ) → is_ascii_digit byte ≡ true → is_blank byte ≡ false
digit_is_no_blank byte digit = grind (arith, nat_tests)

-- there is no blank between digits
digits_are_word : (word bytes : List ℕ) → all_ascii_digits bytes ≡ true → words_after word bytes ≡ with_word (word ++ bytes) []
digits_are_word word [] digits = ap (λ (w : List ℕ). with_word w []) (sym (append-nil word))
digits_are_word word (byte ∷ bytes) digits =
    let both = and_parts (is_ascii_digit byte) (all_ascii_digits bytes) digits in
    let plain : is_blank byte ≡ false = digit_is_no_blank byte both.0 in
    rw plain (digits_are_word (word ++ byte ∷ []) bytes both.1
    ∙ ap (λ (w : List ℕ). with_word w []) (append_assoc word (byte ∷ []) bytes))

number_is_word : (bytes : List ℕ) → is_number bytes ≡ true → words_of bytes ≡ bytes ∷ []
number_is_word [] digits = absurd (let some = (number_parts [] digits).some in omega (arith, some))
number_is_word (byte ∷ bytes) digits = digits_are_word [] (byte ∷ bytes) (number_parts (byte ∷ bytes) digits).digits

-- a number that is all of a line is its one part
pub lone_part : (bytes : List ℕ) (found : Option ℕ) → is_some found ≡ is_number bytes → IfSome found (λ value. value ≡ value_of bytes)
    → IfSome found (λ value. parts_of bytes ≡ number value ∷ [])
lone_part bytes None accepted value_is = tt
lone_part bytes (Some value) accepted value_is =
    ap (map part_of) (number_is_word bytes (sym accepted))
    ∙ ap (λ (part : Part). part ∷ []) (part_of-number bytes (sym accepted) ∙ ap number (sym value_is))
