-- What the first line of a text is, and what follows it.
use Rattle.std.proofs.Common.{ℕ, suc, ◌≡◌, ◌+◌, ◌<◌, ◌==◌, inl, inr, Bool, false, List, [], ◌∷◌, ◌++◌, length, take, drop, map}
use Rattle.std.proofs.Common.{append_assoc, refl, sym, ap, ◌∙◌, nat_lt, not, unwrap_or, arith}
use Rattle.std.specs.List.{onto_first, position, position_or_len}
use Rattle.std.proofs.lemmas.Bool.{cases_Bool, eqb-false, ltb-false}
use Rattle.std.proofs.lemmas.List.{map-append}
use Rattle.std.proofs.lemmas.List.Sums.{prefix_len-le-length}
use Rattle.example_word_count.specs.Lines.{lines_of}

-- the first place of all, or the length
pub unwrap_or-position : (p : ℕ → Bool) (xs : List ℕ) → unwrap_or (position p xs) (length xs) ≡ position_or_len p xs
unwrap_or-position p xs = elim (cases_Bool (nat_lt (position_or_len p xs) (length xs))) [
  | inl inside ↦ rw inside refl
  | inr outside ↦
      let least = ltb-false (position_or_len p xs) (length xs) outside in
      rw outside (omega (arith, least, prefix_len-le-length (λ x. not (p x)) xs))
]

-- a byte other than a newline comes first
first_grows : (byte n : ℕ) (bytes : List ℕ) → lines_of bytes ≡ take n bytes ∷ lines_of (drop (n + 1) bytes)
    → onto_first byte (lines_of bytes) ≡ take (1 + n) (byte ∷ bytes) ∷ lines_of (drop (1 + n + 1) (byte ∷ bytes))
first_grows byte n bytes behind =
    let taken : suc n ≡ 1 + n = omega arith in
    let dropped : suc (n + 1) ≡ 1 + n + 1 = omega arith in
    ap (onto_first byte) behind
    ∙ ap (λ (k : ℕ). take k (byte ∷ bytes) ∷ lines_of (drop (n + 1) bytes)) taken
    ∙ ap (λ (k : ℕ). take (1 + n) (byte ∷ bytes) ∷ lines_of (drop k (byte ∷ bytes))) dropped

-- the first line of some bytes, and the lines after it
pub lines_of-first : (bytes : List ℕ) → 0 < length bytes
    → lines_of bytes ≡ take (position_or_len (λ byte. byte == 10) bytes) bytes
    ∷ lines_of (drop (position_or_len (λ byte. byte == 10) bytes + 1) bytes)
lines_of-first [] some = absurd (omega arith)
lines_of-first (byte ∷ []) some = elim (cases_Bool (byte == 10)) [
  | inl ends ↦ rw ends refl
  | inr grows ↦ rw grows refl
]
lines_of-first (byte ∷ (next ∷ bytes)) some = elim (cases_Bool (byte == 10)) [
  | inl ends ↦ rw ends refl
  | inr grows ↦ rw grows (first_grows byte _ (next ∷ bytes) (lines_of-first (next ∷ bytes) (omega arith)))
]

-- a line more is taken: the lines so far, and those of the rest, stay those of the text
pub lines_of-taken : {X : Type 0} (f : X → List ℕ) (lines more : List X) (line : X) (rest behind : List ℕ) (text : List (List ℕ)) (len : ℕ)
    → map f lines ++ lines_of rest ≡ text → (length rest == 0) ≡ false → len ≡ position_or_len (λ byte. byte == 10) rest
    → behind ≡ drop (len + 1) rest → more ≡ lines ++ line ∷ [] → f line ≡ take len rest
    → map f more ++ lines_of behind ≡ text
lines_of-taken f lines more line rest behind text len so_far some first dropped pushed is =
    let other = eqb-false (length rest) 0 some in
    let next : lines_of rest ≡ f line ∷ lines_of behind = rw (dropped, is, first) (lines_of-first rest (omega (arith, other))) in
    rw (pushed, map-append f lines (line ∷ []), append_assoc (map f lines) (f line ∷ []) (lines_of behind))
    (ap (λ (l : List (List ℕ)). map f lines ++ l) (sym next) ∙ so_far)
