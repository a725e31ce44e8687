-- What is copied from a list into buffers, from one place of the list on.
use Rattle.std.specs.Prelude.{ℕ, ◌≡◌, ◌-◌, ◌&&◌, List, [], ◌∷◌, ◌++◌, if◌then◌else◌, drop, flat_map, length, map, nat_le, nat_lt, take}
use Rattle.bucket_calls.specs.Views.{Text}
use Rattle.bucket_calls.specs.declared.copying.Pair.{Pair}
use Rattle.bucket_calls.specs.declared.copying.TextPair.{TextPair}

-- a buffer whose front is overwritten
abbrev pub with_front : {A : Type 0} → List A → List A → List A
with_front front buffer = front ++ drop (length front) buffer

-- what a pair under a byte string leaves in two buffers: bytes, and a row
abbrev pub Piece : Type 0
Piece = List ℕ × TextPair

abbrev pub text_piece : Text × ℕ → Piece
text_piece pair = (pair.0.items, record { len = length pair.0.items; value = pair.1 })

abbrev pub key_piece : Text → Piece
key_piece key = text_piece (key, 0)

-- by the encoding of a value
abbrev pub piece_of : {V : Type 0} → (V → ℕ) → Text × V → Piece
piece_of word pair = text_piece (pair.0, word pair.1)

-- a pair as C sees it
abbrev pub pair_of : ℕ × ℕ → Pair
pair_of pair = record { key = pair.0; value = pair.1 }

-- the pairs from `start` on are copied to the front of a buffer, as many as there is room for
pub record CopiesPairs (start : ℕ) (pairs : List (ℕ × ℕ)) (old : List Pair) (count : ℕ) (new : List Pair) : Type 0 where
  pub asked : List (ℕ × ℕ)
  pub are : asked ≡ take (length old) (drop start pairs)
  pub count_is : count ≡ length asked
  pub written : new ≡ with_front (map pair_of asked) old

-- the longest front of a list that fits: each piece in a row, and the bytes of all in so many
abbrev pub fitting : ℕ → ℕ → List Piece → List Piece
fitting rows bytes [] = []
fitting rows bytes (piece ∷ pieces) =
    if nat_lt 0 rows && nat_le (length piece.0) bytes then piece ∷ fitting (rows - 1) (bytes - length piece.0) pieces else []

-- the pieces' rows, and their bytes, one after another
abbrev pub rows_of : List Piece → List TextPair
rows_of pieces = map (λ piece. piece.1) pieces

abbrev pub bytes_of : List Piece → List ℕ
bytes_of pieces = flat_map (λ piece. piece.0) pieces

-- the pieces from `start` on are copied to the fronts of two buffers, as many as fit
pub record CopiesTexts (start : ℕ) (pieces : List Piece) (old : List TextPair) (bytes : List ℕ) (count : ℕ) (new : List TextPair)
    (after : List ℕ) : Type 0 where
  pub asked : List Piece
  pub are : asked ≡ fitting (length old) (length bytes) (drop start pieces)
  pub count_is : count ≡ length asked
  pub written : new ≡ with_front (rows_of asked) old
  pub keys : after ≡ with_front (bytes_of asked) bytes
