-- Reading a number digit by digit.
use Rattle.std.proofs.Common.{◌≡◌, ℕ, ◌+◌, ◌-◌, ◌*◌, ◌<◌, ◌≤◌, ◌^◌, List, [], ◌∷◌, true, false, Option, None, is_some, nat_le, nat_lt}
use Rattle.std.proofs.Common.{length, drop, get_or, subst, sym, ◌∙◌, arith}
use Rattle.std.proofs.lemmas.Bool.{and_from, and_parts, false_from_ne_true, false≢true, le-leb, leb-true, lt-ltb, ltb-true}
use Rattle.std.proofs.lemmas.List.{drop_all, at_drop_more}
use Rattle.std.specs.Char.{is_ascii_digit}
use Rattle.std.specs.Str.{all_ascii_digits}
use Rattle.bhtable.specs.Numbers.{is_number, value_after, value_of}

-- what is true of a number's word
pub record IsNumber (word : List ℕ) : Type 0 where
  pub some : 0 < length word
  pub few : length word ≤ 20
  pub digits : all_ascii_digits word ≡ true
  pub fits : value_of word < 2 ^ 64

pub number_parts : (bytes : List ℕ) → is_number bytes ≡ true → IsNumber bytes
unfolding is_number
number_parts bytes holds =
    let fits = and_parts _ (nat_lt (value_of bytes) (2 ^ 64)) holds in
    let digits = and_parts _ (all_ascii_digits bytes) fits.0 in
    let len = and_parts (nat_lt 0 (length bytes)) (nat_le (length bytes) 20) digits.0 in
    record { some = ltb-true _ _ len.0; few = leb-true _ _ len.1; digits = digits.1; fits = ltb-true _ _ fits.1 }

pub number_from : (bytes : List ℕ) → IsNumber bytes → is_number bytes ≡ true
unfolding is_number
number_from bytes number =
    let len = and_from _ _ (lt-ltb _ _ number.some) (le-leb _ _ number.few) in
    and_from _ _ (and_from _ _ len number.digits) (lt-ltb _ _ number.fits)

-- `number` is read so far, and `left` isn't read yet
pub record IsReadTo (word : List ℕ) (number : ℕ) (left : List ℕ) : Type 0 where
  pub value : value_after number left ≡ value_of word
  pub digits : all_ascii_digits left ≡ all_ascii_digits word
  pub fits : number < 2 ^ 64

-- more digits make no smaller number
pub value_after-le : (number : ℕ) (digits : List ℕ) → number ≤ value_after number digits
value_after-le number [] = omega arith
value_after-le number (digit ∷ digits) = omega (arith, value_after-le (number * 10 + (digit - 48)) digits)

pub no_digit : (word : List ℕ) (number byte : ℕ) (left : List ℕ) → IsReadTo word number (byte ∷ left)
    → is_ascii_digit byte ≡ false → IsNumber word → ⊥
no_digit word number byte left so_far other is_number =
    false≢true (sym other ∙ (and_parts (is_ascii_digit byte) (all_ascii_digits left) (so_far.digits ∙ is_number.digits)).0)

pub too_large : (word : List ℕ) (number byte : ℕ) (left : List ℕ) → IsReadTo word number (byte ∷ left)
    → 2 ^ 64 ≤ number * 10 + (byte - 48) → IsNumber word → ⊥
too_large word number byte left so_far large is_number =
    omega (arith, value_after-le (number * 10 + (byte - 48)) left, so_far.value, is_number.fits)

-- the same where the word is read up to an index
next_byte : (word : List ℕ) (at : ℕ) → at < length word → drop at word ≡ get_or word at 0 ∷ drop (at + 1) word
next_byte word at inside = at_drop_more (λ (left : List ℕ). left) word at 0 inside

pub too_large_at : (word : List ℕ) (number at : ℕ) → IsReadTo word number (drop at word) → at < length word
    → 2 ^ 64 ≤ number * 10 + (get_or word at 0 - 48) → IsNumber word → ⊥
too_large_at word number at so_far inside =
    too_large word number (get_or word at 0) (drop (at + 1) word)
    (subst (λ (left : List ℕ). IsReadTo word number left) (next_byte word at inside) so_far)

pub all_read : (word : List ℕ) (number at : ℕ) → IsReadTo word number (drop at word) → length word ≤ at
    → 0 < length word → length word ≤ 20 → IsNumber word
all_read word number at so_far end some few =
    let read : IsReadTo word number [] = subst (λ (left : List ℕ). IsReadTo word number left) (drop_all at word end) so_far in
    record { some = some; few = few; digits = sym read.digits; fits = omega (arith, read.value, read.fits) }

pub no_number : (word : List ℕ) → (IsNumber word → ⊥) → false ≡ is_number word
no_number word never = sym (false_from_ne_true _ (λ holds. never (number_parts word holds)))

pub none_if : (answer : Option ℕ) (word : List ℕ) → answer ≡ None → (IsNumber word → ⊥) → is_some answer ≡ is_number word
none_if answer word none never = rw none (no_number word never)

pub other_byte_at : (word : List ℕ) (number at : ℕ) → IsReadTo word number (drop at word) → at < length word
    → is_ascii_digit (get_or word at 0) ≡ false → IsNumber word → ⊥
other_byte_at word number at so_far inside =
    no_digit word number (get_or word at 0) (drop (at + 1) word)
    (subst (λ (left : List ℕ). IsReadTo word number left) (next_byte word at inside) so_far)
