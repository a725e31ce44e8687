-- What an exported call copies of the pairs of one bucket.
use Rattle.std.specs.Prelude.{ℕ, ◌≡◌, List, Option, Some, None, length, map}
use Rattle.std.specs.Map.{keys_of}
use Rattle.collections.specs.Maps.{map_of, pairs_in_bucket}
use Rattle.bucket_calls.specs.Buckets.{CopiesBucket, beside_zero, value_alone}
use Rattle.bucket_calls.specs.Copying.{CopiesPairs, CopiesTexts, Piece, key_piece, piece_of, text_piece}
use Rattle.bucket_calls.specs.declared.copying.Pair.{Pair}
use Rattle.bucket_calls.specs.declared.copying.TextPair.{TextPair}
use Rattle.bucket_c.specs.Tables.{Reads}
use Rattle.bucket_c.specs.declared.tables.Table.{Table}
use Rattle.bucket_c.specs.declared.tables.Table.TheVariants.{Map, TextMap, Set, TextSet, Store, Cache, TextCache}

-- how many pairs each bucket of a table has, and the pairs of one bucket as words
abbrev pub words_in : ℕ → Table → List ℕ × List (ℕ × ℕ)
words_in bucket (Map m) = (m.bucket_lens, pairs_in_bucket m bucket)
words_in bucket (TextMap m) = (m.bucket_lens, map (value_alone (λ word. word)) (pairs_in_bucket m bucket))
words_in bucket (Set s) = (s.bucket_lens, map (beside_zero (λ word. word)) (keys_of (pairs_in_bucket s bucket)))
words_in bucket (TextSet s) = (s.bucket_lens, map (beside_zero (λ text. 0)) (keys_of (pairs_in_bucket s bucket)))
words_in bucket (Store m) = (m.bucket_lens, map (value_alone (λ text. 0)) (pairs_in_bucket m bucket))
words_in bucket (Cache c) = ((map_of c).bucket_lens, pairs_in_bucket (map_of c) bucket)
words_in bucket (TextCache c) = ((map_of c).bucket_lens, map (value_alone (λ word. word)) (pairs_in_bucket (map_of c) bucket))

-- the same for the pairs under byte strings, as what they leave in two buffers
abbrev pub texts_in : ℕ → Table → Option (List ℕ × List Piece)
texts_in bucket (Map m) = None
texts_in bucket (TextMap m) = Some (m.bucket_lens, map text_piece (pairs_in_bucket m bucket))
texts_in bucket (Set s) = None
texts_in bucket (TextSet s) = Some (s.bucket_lens, map key_piece (keys_of (pairs_in_bucket s bucket)))
texts_in bucket (Store m) = Some (m.bucket_lens, map (piece_of (λ text. length text.items)) (pairs_in_bucket m bucket))
texts_in bucket (Cache c) = None
texts_in bucket (TextCache c) = Some ((map_of c).bucket_lens, map text_piece (pairs_in_bucket (map_of c) bucket))

module _ (bucket start : ℕ) where
  -- the pairs of a bucket, from a given one on, are copied to the front of a buffer, as many as there is room for
  abbrev pub CopiesWordsIn : Option Table → List Pair → ℕ → ℕ → List Pair → ℕ → Type 0
  CopiesWordsIn table old before code new count =
      Reads (λ t. Some (words_in bucket t)) (λ all code. CopiesBucket bucket all.0 (CopiesPairs start all.1 old count new) code)
      ((new ≡ old) × (count ≡ before)) table code

  -- the same into two buffers, as many as fit in both
  abbrev pub CopiesTextsIn : Option Table → List TextPair → List ℕ → ℕ → ℕ → List TextPair → List ℕ → ℕ → Type 0
  CopiesTextsIn table old bytes before code new after count =
      Reads (texts_in bucket) (λ all code. CopiesBucket bucket all.0 (CopiesTexts start all.1 old bytes count new after) code)
      ((new ≡ old) × (after ≡ bytes) × (count ≡ before)) table code
