-- What is found at the front of the bytes that are read is the first of the lines.
use Rattle.std.proofs.Common.{◌≡◌, ℕ, ◌+◌, ◌<◌, ◌≤◌, List, [], ◌∷◌, ◌++◌, Bool, true, false, nat_lt, length, take, drop, inl, inr, refl}
use Rattle.std.proofs.Common.{ap, ◌∙◌, arith, length-take-le, ltb-true, ltb-false}
use Rattle.std.proofs.lemmas.Bool.{cases_Bool}
use Rattle.std.proofs.lemmas.List.{drop_all, take-take}
use Rattle.bhtable.specs.InputLines.{last_line, line_len, lines_after, lines_of, without_return}
use Rattle.bhtable.specs.Found.{IsFound, IsFoundIn, IsFoundUnended}
use Rattle.bhtable.specs.declared.lines.Found.TheVariants.{Line as FoundLine, TooLong, Cut, End}
use Rattle.bhtable.specs.declared.lines.Line.{Line}
use Rattle.bhtable.proofs.LineSplits.{begins_with, first_line, length-without_return, line_goes_on, line_len-append, line_len-le}
use Rattle.bhtable.proofs.LineSplits.{newline_at}

last_is : (bytes : List ℕ) → 0 < length bytes → last_line bytes ≡ without_return bytes ∷ []
last_is [] some = absurd (omega arith)
last_is (byte ∷ bytes) some = refl

ended_line : (bytes more : List ℕ) (line : Line) → newline_at bytes < length bytes
    → IsFound (take (newline_at bytes) bytes) (newline_at bytes + 1) (FoundLine line)
    → lines_of (bytes ++ more) ≡ take line.len bytes ∷ lines_of (drop line.whole_len bytes ++ more)
ended_line bytes more line inside (whole, len, short) =
    let front : length (take (newline_at bytes) bytes) ≡ newline_at bytes = length-take-le (newline_at bytes) bytes (omega arith) in
    let counted : line_len (take (newline_at bytes) bytes) ≤ newline_at bytes =
    omega (arith, front, line_len-le (take (newline_at bytes) bytes)) in
    rw (len, whole) (first_line bytes [] more inside
    ∙ ap (λ (l : List ℕ). l ∷ lines_of (drop (newline_at bytes + 1) bytes ++ more)) (take-take _ _ bytes counted))

unended_line : (is_ended : Bool) (bytes more : List ℕ) (line : Line) → length bytes ≤ newline_at bytes
    → IsFoundUnended is_ended bytes (FoundLine line) → (is_ended ≡ true → more ≡ [])
    → lines_of (bytes ++ more) ≡ take line.len bytes ∷ lines_of (drop line.whole_len bytes ++ more)
unended_line is_ended bytes more line none (ended, some, found) last =
    let nothing : more ≡ [] = last ended in
    let whole : line.whole_len ≡ length bytes = found.0 in
    let len : line.len ≡ line_len bytes = found.1 in
    let all : drop (length bytes) bytes ≡ [] = drop_all (length bytes) bytes (omega arith) in
    let left : drop line.whole_len bytes ++ more ≡ [] = rw (whole, all) nothing in
    rw (left, len) (line_goes_on bytes [] more none ∙ ap (λ (l : List ℕ). lines_after bytes l) nothing ∙ last_is bytes some)

-- a line that is found is the first; if the input has ended, nothing follows the bytes
pub found_line : (is_ended : Bool) (bytes more : List ℕ) (line : Line) → IsFoundIn is_ended bytes (FoundLine line)
    → (is_ended ≡ true → more ≡ [])
    → lines_of (bytes ++ more) ≡ take line.len bytes ∷ lines_of (drop line.whole_len bytes ++ more)
found_line is_ended bytes more line found last = elim (cases_Bool (nat_lt (newline_at bytes) (length bytes))) [
  | inl inside ↦ ended_line bytes more line (ltb-true _ _ inside) (rw inside at found)
  | inr none ↦ unended_line is_ended bytes more line (ltb-false _ _ none) (rw none at found) last
]

-- the first of the lines is too long
pub record IsLongFirst (lines : List (List ℕ)) : Type 0 where
  pub line : List ℕ
  pub others : List (List ℕ)
  pub in_order : lines ≡ line ∷ others
  pub long : 4096 < length line

pub found_too_long : (is_ended : Bool) (bytes more : List ℕ) → IsFoundIn is_ended bytes TooLong
    → IsLongFirst (lines_of (bytes ++ more))
found_too_long is_ended bytes more found = elim (cases_Bool (nat_lt (newline_at bytes) (length bytes))) [
  | inl inside ↦
      let front = take (newline_at bytes) bytes in
      let long : 4096 < line_len front = rw inside at found in
      record {
        line = without_return front;
        others = lines_of (drop (newline_at bytes + 1) bytes ++ more);
        in_order = first_line bytes [] more (ltb-true _ _ inside);
        long = omega (arith, long, length-without_return front);
      }
  | inr none ↦
      let long : 4096 < line_len bytes = rw none at found in
      let later = begins_with more bytes (omega (arith, long, line_len-le bytes)) in
      let whole = bytes ++ later.more in
      record {
        line = without_return whole;
        others = later.others;
        in_order = line_goes_on bytes [] more (ltb-false _ _ none) ∙ later.in_order;
        long = omega (arith, long, length-without_return whole, line_len-append bytes later.more);
      }
]

pub found_end : (is_ended : Bool) (bytes : List ℕ) → IsFoundIn is_ended bytes End → (is_ended ≡ true) × (bytes ≡ [])
found_end is_ended bytes found = elim (cases_Bool (nat_lt (newline_at bytes) (length bytes))) [
  | inl inside ↦ let never : ⊥ = rw inside at found in absurd never
  | inr none ↦ rw none at found
]

pub found_cut : (is_ended : Bool) (bytes : List ℕ) → IsFoundIn is_ended bytes Cut → is_ended ≡ false
found_cut is_ended bytes found = elim (cases_Bool (nat_lt (newline_at bytes) (length bytes))) [
  | inl inside ↦ let never : ⊥ = rw inside at found in absurd never
  | inr none ↦ let cut : (is_ended ≡ false) × (length bytes ≤ 4097) = rw none at found in cut.0
]
