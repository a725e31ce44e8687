-- The first line of some bytes, and how many of its bytes count.
use Rattle.std.proofs.Common.{◌≡◌, ℕ, ◌+◌, ◌-◌, ◌<◌, ◌≤◌, ◌==◌, List, [], ◌∷◌, ◌++◌, Bool, true, false, cond, not, length, take, drop}
use Rattle.std.proofs.Common.{get_or, inl, inr, suc, sym, ap, ◌∙◌, arith, append_assoc, append-nil, length-append, length-take-le}
use Rattle.std.proofs.lemmas.Bool.{cases_Bool}
use Rattle.std.specs.List.{position_or_len}
use Rattle.bhtable.specs.InputLines.{line_len, lines_after, lines_of, without_return}

abbrev pub newline_at : List ℕ → ℕ
newline_at bytes = position_or_len (λ byte. byte == 10) bytes

pub line_len-le : (bytes : List ℕ) → line_len bytes ≤ length bytes
line_len-le bytes = elim (cases_Bool (get_or bytes (length bytes - 1) 0 == 13)) [
  | inl same ↦ rw same (omega arith)
  | inr other ↦ rw other (omega arith)
]

line_len-ge : (bytes : List ℕ) → length bytes ≤ line_len bytes + 1
line_len-ge bytes = elim (cases_Bool (get_or bytes (length bytes - 1) 0 == 13)) [
  | inl same ↦ rw same (omega arith)
  | inr other ↦ rw other (omega arith)
]

pub length-without_return : (bytes : List ℕ) → length (without_return bytes) ≡ line_len bytes
length-without_return bytes = length-take-le (line_len bytes) bytes (line_len-le bytes)

-- a line that continues is no shorter
pub line_len-append : (bytes more : List ℕ) → line_len bytes ≤ line_len (bytes ++ more)
line_len-append bytes [] = rw append-nil (omega arith)
line_len-append bytes (byte ∷ more) =
    let longer : length (bytes ++ byte ∷ more) ≡ length bytes + suc (length more) = length-append bytes (byte ∷ more) in
    let short : line_len bytes ≤ length bytes = line_len-le bytes in
    let long : length (bytes ++ byte ∷ more) ≤ line_len (bytes ++ byte ∷ more) + 1 = line_len-ge (bytes ++ byte ∷ more) in
    omega arith

first_line_step : (newline : Bool) (byte : ℕ) (bytes line rest : List ℕ)
    → cond (not newline) (1 + newline_at bytes) 0 < suc (length bytes)
    → (newline_at bytes < length bytes → lines_after (line ++ byte ∷ []) (bytes ++ rest)
    ≡ without_return ((line ++ byte ∷ []) ++ take (newline_at bytes) bytes) ∷ lines_of (drop (newline_at bytes + 1) bytes ++ rest))
    → cond newline (without_return line ∷ lines_of (bytes ++ rest)) (lines_after (line ++ byte ∷ []) (bytes ++ rest))
    ≡ without_return (line ++ take (cond (not newline) (1 + newline_at bytes) 0) (byte ∷ bytes))
    ∷ lines_of (drop (cond (not newline) (1 + newline_at bytes) 0 + 1) (byte ∷ bytes) ++ rest)
first_line_step true byte bytes line rest inside later =
    ap (λ (l : List ℕ). without_return l ∷ lines_of (bytes ++ rest)) (sym (append-nil line))
first_line_step false byte bytes line rest inside later =
    let past : 1 + newline_at bytes + 1 ≡ suc (newline_at bytes + 1) = omega arith in
    let one : 1 + newline_at bytes ≡ suc (newline_at bytes) = omega arith in
    rw (past, one) (later (omega arith)
    ∙ ap (λ (l : List ℕ). without_return l ∷ lines_of (drop (newline_at bytes + 1) bytes ++ rest)) (append_assoc line (byte ∷ []) _))

-- a newline in the bytes ends the first line
pub first_line : (bytes line rest : List ℕ) → newline_at bytes < length bytes
    → lines_after line (bytes ++ rest)
    ≡ without_return (line ++ take (newline_at bytes) bytes) ∷ lines_of (drop (newline_at bytes + 1) bytes ++ rest)
first_line [] line rest inside = absurd (omega arith)
first_line (byte ∷ bytes) line rest inside =
    first_line_step (byte == 10) byte bytes line rest inside (first_line bytes (line ++ byte ∷ []) rest)

line_goes_on_step : (newline : Bool) (byte : ℕ) (bytes line rest : List ℕ)
    → suc (length bytes) ≤ cond (not newline) (1 + newline_at bytes) 0
    → (length bytes ≤ newline_at bytes → lines_after (line ++ byte ∷ []) (bytes ++ rest)
    ≡ lines_after ((line ++ byte ∷ []) ++ bytes) rest)
    → cond newline (without_return line ∷ lines_of (bytes ++ rest)) (lines_after (line ++ byte ∷ []) (bytes ++ rest))
    ≡ lines_after (line ++ byte ∷ bytes) rest
line_goes_on_step true byte bytes line rest none later = absurd (omega arith)
line_goes_on_step false byte bytes line rest none later =
    later (omega arith) ∙ ap (λ (l : List ℕ). lines_after l rest) (append_assoc line (byte ∷ []) bytes)

-- without one they all belong to it
pub line_goes_on : (bytes line rest : List ℕ) → length bytes ≤ newline_at bytes
    → lines_after line (bytes ++ rest) ≡ lines_after (line ++ bytes) rest
line_goes_on [] line rest none = ap (λ (l : List ℕ). lines_after l rest) (sym (append-nil line))
line_goes_on (byte ∷ bytes) line rest none =
    line_goes_on_step (byte == 10) byte bytes line rest none (line_goes_on bytes (line ++ byte ∷ []) rest)

-- the first of the lines begins with these bytes
pub record BeginsWith (lines : List (List ℕ)) (bytes : List ℕ) : Type 0 where
  pub more : List ℕ
  pub others : List (List ℕ)
  pub in_order : lines ≡ without_return (bytes ++ more) ∷ others

begins_with_step : (newline : Bool) (byte : ℕ) (line rest : List ℕ) → BeginsWith (lines_after (line ++ byte ∷ []) rest) (line ++ byte ∷ [])
    → BeginsWith (cond newline (without_return line ∷ lines_of rest) (lines_after (line ++ byte ∷ []) rest)) line
begins_with_step true byte line rest later = record {
  more = [];
  others = lines_of rest;
  in_order = ap (λ (l : List ℕ). without_return l ∷ lines_of rest) (sym (append-nil line));
}
begins_with_step false byte line rest later = record {
  more = byte ∷ later.more;
  others = later.others;
  in_order = later.in_order ∙ ap (λ (l : List ℕ). without_return l ∷ later.others) (append_assoc line (byte ∷ []) later.more);
}

pub begins_with : (rest line : List ℕ) → 0 < length line → BeginsWith (lines_after line rest) line
begins_with [] [] some = absurd (omega arith)
begins_with [] (byte ∷ bytes) some = record {
  more = [];
  others = [];
  in_order = ap (λ (l : List ℕ). without_return l ∷ []) (sym (append-nil (byte ∷ bytes)));
}
begins_with (byte ∷ rest) line some =
    begins_with_step (byte == 10) byte line rest
    (begins_with rest (line ++ byte ∷ []) (omega (arith, length-append line (byte ∷ []))))
