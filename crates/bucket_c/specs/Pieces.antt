-- What an exported call copies of a handle's pairs.
use Rattle.std.specs.Prelude.{ℕ, ◌≡◌, List, Option, Some, None, map}
use Rattle.std.specs.Map.{keys_of}
use Rattle.bucket_table.specs.Views.ArraysView.{pairs_of}
use Rattle.bucket_calls.specs.Codes.{ok}
use Rattle.bucket_calls.specs.Copying.{CopiesPairs, CopiesTexts, Piece, key_piece, text_piece}
use Rattle.bucket_calls.specs.declared.copying.Pair.{Pair}
use Rattle.bucket_calls.specs.declared.copying.TextPair.{TextPair}
use Rattle.bucket_c.specs.Tables.{Reads}
use Rattle.bucket_c.specs.declared.tables.Table.{Table}
use Rattle.bucket_c.specs.declared.tables.Table.TheVariants.{Map, TextMap, Set, TextSet, Store, Cache, TextCache}

-- the pairs under words that a table has
abbrev pub word_pairs : Table → Option (List (ℕ × ℕ))
word_pairs (Map map) = Some map.entries
word_pairs (TextMap map) = None
word_pairs (Set set) = None
word_pairs (TextSet set) = None
word_pairs (Store map) = None
word_pairs (Cache cache) = Some (pairs_of cache.arrays)
word_pairs (TextCache cache) = None

-- what its pairs under byte strings leave in two buffers
abbrev pub text_pieces : Table → Option (List Piece)
text_pieces (Map m) = None
text_pieces (TextMap m) = Some (map text_piece m.entries)
text_pieces (Set s) = None
text_pieces (TextSet s) = Some (map key_piece (keys_of s.entries))
text_pieces (Store m) = None
text_pieces (Cache c) = None
text_pieces (TextCache c) = Some (map text_piece (pairs_of c.arrays))

module _ (start : ℕ) where
  -- the pairs of words, or nothing if the handle is closed or of another kind
  abbrev pub CopiesWordsOf : Option Table → List Pair → ℕ → ℕ → List Pair → ℕ → Type 0
  CopiesWordsOf table old before code new count =
      Reads word_pairs (λ pairs code. (code ≡ ok) × CopiesPairs start pairs old count new) ((new ≡ old) × (count ≡ before)) table code

  -- the same for pairs under byte strings
  abbrev pub CopiesTextsOf : Option Table → List TextPair → List ℕ → ℕ → ℕ → List TextPair → List ℕ → ℕ → Type 0
  CopiesTextsOf table old bytes before code new after count =
      Reads text_pieces (λ pieces code. (code ≡ ok) × CopiesTexts start pieces old bytes count new after)
      ((new ≡ old) × (after ≡ bytes) × (count ≡ before)) table code
