-- One step of a copy. No export's clause cites this module.
use Rattle.std.specs.Prelude.{ℕ, ◌+◌, ◌-◌, Bool, ◌&&◌, List, cond, length, nat_le, nat_lt, slice_set}
use lib.Seq.{paste}
use Rattle.bucket_calls.specs.Copying.{Piece, pair_of}
use Rattle.bucket_calls.specs.declared.copying.Pair.{Pair}
use Rattle.bucket_calls.specs.declared.copying.Place.{Place}
use Rattle.bucket_calls.specs.declared.copying.TextPair.{TextPair}

-- how many pairs are to be skipped, how many are copied, and the buffer: a pair is skipped, or is written to the next place, if there is
-- one
abbrev pub next_copied : ℕ × ℕ × List Pair → ℕ × ℕ → ℕ × ℕ × List Pair
next_copied state pair =
    cond (nat_lt 0 state.0) (state.0 - 1, state.1, state.2)
    (cond (nat_lt state.1 (length state.2)) (state.0, state.1 + 1, slice_set state.2 state.1 (pair_of pair)) state)

-- whether there is a row, and room for so many bytes
abbrev pub has_room : Place → List TextPair → List ℕ → List ℕ → Bool
has_room place rows bytes more =
    nat_lt place.count (length rows) && (nat_le place.end (length bytes) && nat_le (length more) (length bytes - place.end))

-- the progress of a copy, and the buffers: a piece is skipped, or its row is written to the next one and its bytes behind the others, if
-- they fit; if not, nothing is written from then on
abbrev pub next_text : Place × List TextPair × List ℕ → Piece → Place × List TextPair × List ℕ
next_text state piece =
    let place : Place = state.0 in
    let more : List ℕ = piece.0 in
    cond (nat_lt 0 place.skip) (record place { skip = place.skip - 1 }, state.1, state.2)
    (cond (nat_lt 0 place.room && has_room place state.1 state.2 more) (
      record { skip = place.skip; room = place.room - 1; count = place.count + 1; end = place.end + length more },
      slice_set state.1 place.count piece.1,
      paste state.2 place.end more (length more),
    )
    (record place { room = 0 }, state.1, state.2))
