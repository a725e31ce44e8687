-- What is in two buffers after the pieces of a list were copied to them in turn.
use Rattle.std.proofs.Common.{ℕ, zero, suc, ◌≡◌, ◌+◌, ◌-◌, ◌<◌, ◌≤◌, ◌∙◌, Bool, true, false, List, [], ◌∷◌, ◌++◌, length, drop}
use Rattle.std.proofs.Common.{refl, sym, ap, subst, arith, length-append, length-set}
use lib.Seq.{paste}
use Rattle.std.proofs.lemmas.Bool.{leb-true, leb-false, lt-ltb, le-leb, lt-leb}
use Rattle.std.proofs.lemmas.List.{drop_all, length-map}
use Rattle.std.proofs.lemmas.List.Edits.{sets, sets-eq, length-paste, paste_all, paste_none, paste-paste}
use Rattle.std.specs.List.{FoldsTo}
use Rattle.std.specs.Prelude.{nat_le, slice_set}
use Rattle.bucket_calls.specs.Copying.{CopiesTexts, Piece, bytes_of, fitting, rows_of}
use Rattle.bucket_calls.specs.Steps.{next_text}
use Rattle.bucket_calls.specs.declared.copying.Place.{Place}
use Rattle.bucket_calls.specs.declared.copying.TextPair.{TextPair}

abbrev State : Type 0
State = Place × List TextPair × List ℕ

abbrev Copies : State → List Piece → State → Type 0
Copies first pieces last = FoldsTo (λ before piece after. after ≡ next_text before piece) first pieces last

abbrev nothing : List Piece
nothing = []

abbrev place : ℕ → ℕ → ℕ → ℕ → Place
place skip room count end = record { skip = skip; room = room; count = count; end = end }

-- these pieces were written from a row and from a byte on
abbrev Went : ℕ → ℕ → List TextPair → List ℕ → List Piece → State → Type 0
Went count end rows bytes asked last = (last.0.count ≡ count + length asked) × (last.1 ≡ sets rows count (rows_of asked))
    × (last.2 ≡ paste bytes end (bytes_of asked) (length (bytes_of asked)))

none_went : (skip room count end : ℕ) (rows : List TextPair) (bytes : List ℕ) (last : State)
    → (place skip room count end, rows, bytes) ≡ last
    → Went count end rows bytes [] last
none_went skip room count end rows bytes last is = (
  omega (arith, ap (λ (s : State). s.0.count) is),
  ap (λ (s : State). s.1) (sym is),
  ap (λ (s : State). s.2) (sym is) ∙ paste_none bytes end [],
)

passes : (skip room count end : ℕ) (rows : List TextPair) (bytes : List ℕ) (piece : Piece)
    → next_text (place (suc skip) room count end, rows, bytes) piece ≡ (place skip room count end, rows, bytes)
passes skip room count end rows bytes piece =
    let less : suc skip - 1 ≡ skip = omega arith in
    rw (lt-ltb 0 (suc skip) (omega arith)) (λ i. (place (less i) room count end, rows, bytes))

-- nothing is written if there is no room
idle : (skip count end : ℕ) (rows : List TextPair) (bytes : List ℕ) (pieces : List Piece) (last : State)
    → Copies (place skip 0 count end, rows, bytes) pieces last → Went count end rows bytes [] last
idle skip count end rows bytes [] last is = none_went skip 0 count end rows bytes last is
idle (suc skip) count end rows bytes (piece ∷ pieces) last went =
    idle skip count end rows bytes pieces last
    (subst (λ s. Copies s pieces last) (went.1 ∙ passes skip 0 count end rows bytes piece) went.2)
idle zero count end rows bytes (piece ∷ pieces) last went =
    idle zero count end rows bytes pieces last (subst (λ s. Copies s pieces last) went.1 went.2)

none_fitting : (spare : ℕ) (pieces : List Piece) → fitting 0 spare pieces ≡ []
none_fitting spare [] = refl
none_fitting spare (piece ∷ pieces) = refl

module _ (room count end : ℕ) (rows : List TextPair) (bytes : List ℕ) (piece : Piece) (has_row : count < length rows)
    (within : end ≤ length bytes) where
  writes : length piece.0 ≤ length bytes - end
      → next_text (place 0 (suc room) count end, rows, bytes) piece
      ≡ (
        place 0 room (suc count) (end + length piece.0),
        slice_set rows count piece.1,
        paste bytes end piece.0 (length piece.0),
      )
  writes fits =
      let room_is : suc room - 1 ≡ room = omega arith in
      let count_is : count + 1 ≡ suc count = omega arith in
      rw (
        lt-ltb 0 (suc room) (omega arith),
        lt-ltb count (length rows) has_row,
        le-leb end (length bytes) within,
        le-leb (length piece.0) (length bytes - end) fits,
      )
      (λ i. (
        place 0 (room_is i) (count_is i) (end + length piece.0),
        slice_set rows count piece.1,
        paste bytes end piece.0 (length piece.0),
      ))

  refuses : length bytes - end < length piece.0
      → next_text (place 0 (suc room) count end, rows, bytes) piece ≡ (place 0 0 count end, rows, bytes)
  refuses longer = rw (
    lt-ltb 0 (suc room) (omega arith),
    lt-ltb count (length rows) has_row,
    le-leb end (length bytes) within,
    lt-leb (length piece.0) (length bytes - end) longer,
  ) refl

module _ (room spare : ℕ) (piece : Piece) (pieces : List Piece) where
  first_fits : nat_le (length piece.0) spare ≡ true
      → fitting (suc room) spare (piece ∷ pieces) ≡ piece ∷ fitting room (spare - length piece.0) pieces
  first_fits fits =
      let less : suc room - 1 ≡ room = omega arith in
      rw (lt-ltb 0 (suc room) (omega arith), fits) (ap (λ r. piece ∷ fitting r (spare - length piece.0) pieces) less)

  first_is_longer : nat_le (length piece.0) spare ≡ false → fitting (suc room) spare (piece ∷ pieces) ≡ []
  first_is_longer longer = rw (lt-ltb 0 (suc room) (omega arith), longer) refl

-- the first piece is written if it fits, given what the others write from there on
module _ (room count end spare : ℕ) (rows : List TextPair) (bytes : List ℕ) (piece : Piece) (pieces : List Piece) (last : State)
    (within : count + suc room ≤ length rows) (is : end + spare ≡ length bytes)
    (went : Copies (place 0 (suc room) count end, rows, bytes) (piece ∷ pieces) last) where
  abbrev Later : Type 0
  Later = (later : List TextPair) (after : List ℕ) (left : ℕ) → suc count + room ≤ length later
      → end + length piece.0 + left ≡ length after
      → Copies (place 0 room (suc count) (end + length piece.0), later, after) pieces last
      → Went (suc count) (end + length piece.0) later after (fitting room left pieces) last

  first_went : Later → (fits : Bool) → nat_le (length piece.0) spare ≡ fits
      → Went count end rows bytes (fitting (suc room) spare (piece ∷ pieces)) last
  first_went others true fits =
      let more : List ℕ = piece.0 in
      let n : ℕ = length more in
      let le : n ≤ spare = leb-true n spare fits in
      let step = went.1 ∙ writes room count end rows bytes piece (omega arith) (omega (arith, is)) (omega (arith, is)) in
      let rest = others (slice_set rows count piece.1) (paste bytes end more n) (spare - n)
      (omega (arith, length-set rows count piece.1))
      (omega (arith, is, length-paste bytes end more n (omega (arith, is)) (omega arith)))
      (subst (λ s. Copies s pieces last) step went.2) in
      let after : List ℕ = bytes_of (fitting room (spare - n) pieces) in
      rw (first_fits room spare piece pieces fits) (
        omega (arith, rest.0),
        rest.1,
        rest.2 ∙ paste-paste bytes end more after n (length after) refl refl (omega (arith, is))
            ∙ ap (λ m. paste bytes end (more ++ after) m) (sym (length-append more after)),
      )
  first_went others false longer =
      let step = went.1 ∙ refuses room count end rows bytes piece (omega arith) (omega (arith, is))
      (omega (arith, is, leb-false (length piece.0) spare longer)) in
      rw (first_is_longer room spare piece pieces longer)
      (idle zero count end rows bytes pieces last (subst (λ s. Copies s pieces last) step went.2))

pub texts_went : (skip room count end spare : ℕ) (rows : List TextPair) (bytes : List ℕ) (pieces : List Piece) (last : State)
    → count + room ≤ length rows → end + spare ≡ length bytes → Copies (place skip room count end, rows, bytes) pieces last
    → Went count end rows bytes (fitting room spare (drop skip pieces)) last
texts_went skip room count end spare rows bytes [] last within is went =
    rw (drop_all skip nothing (omega arith)) (none_went skip room count end rows bytes last went)
texts_went (suc skip) room count end spare rows bytes (piece ∷ pieces) last within is went =
    texts_went skip room count end spare rows bytes pieces last within is
    (subst (λ s. Copies s pieces last) (went.1 ∙ passes skip room count end rows bytes piece) went.2)
texts_went zero zero count end spare rows bytes (piece ∷ pieces) last within is went =
    idle zero count end rows bytes pieces last (subst (λ s. Copies s pieces last) went.1 went.2)
texts_went zero (suc room) count end spare rows bytes (piece ∷ pieces) last within is went =
    first_went room count end spare rows bytes piece pieces last within is went
    (λ later after left w i c. texts_went zero room (suc count) (end + length piece.0) left later after pieces last w i c)
    (nat_le (length piece.0) spare) refl

-- no more fit than there are rows
module _ (room spare : ℕ) (piece : Piece) (pieces : List Piece) where
  first_within : ((left : ℕ) → length (fitting room left pieces) ≤ room) → (fits : Bool) → nat_le (length piece.0) spare ≡ fits
      → length (fitting (suc room) spare (piece ∷ pieces)) ≤ suc room
  first_within others true fits = rw (first_fits room spare piece pieces fits) (omega (arith, others (spare - length piece.0)))
  first_within others false longer = rw (first_is_longer room spare piece pieces longer) (omega arith)

length-fitting : (room spare : ℕ) (pieces : List Piece) → length (fitting room spare pieces) ≤ room
length-fitting room spare [] = omega arith
length-fitting zero spare (piece ∷ pieces) = omega arith
length-fitting (suc room) spare (piece ∷ pieces) =
    first_within room spare piece pieces (λ left. length-fitting room left pieces) (nat_le (length piece.0) spare) refl

-- from a place of the list on, as many as fit
pub texts_copied : (start : ℕ) (rows : List TextPair) (bytes : List ℕ) (pieces : List Piece) (last : State)
    → Copies (place start (length rows) 0 0, rows, bytes) pieces last → {ended : Place} → ended ≡ last.0
    → {new : List TextPair} → new ≡ last.1 → {after : List ℕ} → after ≡ last.2 → CopiesTexts start pieces rows bytes ended.count new after
texts_copied start rows bytes pieces last went ended_is new_is after_is =
    let asked : List Piece = fitting (length rows) (length bytes) (drop start pieces) in
    let front : List TextPair = rows_of asked in
    let keys : List ℕ = bytes_of asked in
    let all = texts_went start (length rows) 0 0 (length bytes) rows bytes pieces last (omega arith) (omega arith) went in
    let fits : 0 + length front ≤ length rows =
    omega (arith, length-map asked (λ (p : Piece). p.1), length-fitting (length rows) (length bytes) (drop start pieces)) in
    let rows_from_zero : 0 + length front ≡ length front = omega arith in
    let bytes_from_zero : 0 + length keys ≡ length keys = omega arith in
    record {
      asked = asked;
      are = refl;
      count_is = omega (arith, ap (λ (p : Place). p.count) ended_is, all.0);
      written = new_is ∙ all.1 ∙ sets-eq front rows 0 fits ∙ ap (λ k. front ++ drop k rows) rows_from_zero;
      keys = after_is ∙ all.2 ∙ paste_all bytes 0 keys (length keys) refl ∙ ap (λ k. keys ++ drop k bytes) bytes_from_zero;
    }
