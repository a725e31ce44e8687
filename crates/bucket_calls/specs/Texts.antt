-- What the calls do that copy their key, a byte string, only if the map, the set or the cache does not contain it.
use Rattle.std.specs.Prelude.{ℕ, ◌≡◌, ◌<◌, ◌⊎◌, List, false, length, true}
use Rattle.collections.specs.CacheWrites.{IsWritten}
use Rattle.collections.specs.Changes.{Replaces}
use Rattle.collections.specs.Maps.{contains_by, map_of}
use Rattle.bucket_calls.specs.Caches.{PutsOne, UpsertsInto, text_copied}
use Rattle.bucket_calls.specs.Codes.{no_memory, present}
use Rattle.bucket_calls.specs.Copies.{AddsTo, ByCopy, GetsOrInserts, InsertsCopy, UpsertsCopy}
use Rattle.bucket_calls.specs.Hashing.{text_hash}
use Rattle.bucket_calls.specs.Views.{Caches, Maps, Text, has_bytes, text_eq}

-- what calls do that are given the bytes of a key
module _ (key : List ℕ) where
  abbrev pub InsertsText : {V : Type 0} → V → Maps Text V → ℕ → Maps Text V → Type 0
  InsertsText value old code new = InsertsCopy text_eq text_hash (has_bytes key) (0 < length key) value old code new

  abbrev pub UpsertsText : {V : Type 0} → V → V → Maps Text V → ℕ → Maps Text V → V → Type 0
  UpsertsText value before old code new after =
      UpsertsCopy text_eq text_hash (has_bytes key) (0 < length key) value before old code new after

  abbrev pub AddsToText : ℕ → ℕ → Maps Text ℕ → ℕ → Maps Text ℕ → ℕ → Type 0
  AddsToText amount before old code new after = AddsTo text_eq text_hash (has_bytes key) (0 < length key) amount before old code new after

  abbrev pub GetsOrInsertsText : {V : Type 0} → V → V → Maps Text V → ℕ → Maps Text V → V → Type 0
  GetsOrInsertsText value before old code new after =
      GetsOrInserts text_eq text_hash (has_bytes key) (0 < length key) value before old code new after

module _ (key : List ℕ) (value : ℕ) (bytes : List ℕ) (len before : ℕ) (old : Caches Text) (code : ℕ) (new : Caches Text)
    (bytes_after : List ℕ) (len_after after : ℕ) where
  -- nothing is output
  abbrev pub IsKept : Type 0
  IsKept = (bytes_after ≡ bytes) × (len_after ≡ len) × (after ≡ before)

  -- the cache does not contain the key, and a call does this with a copy of it, or allocation failed for the copy, and nothing changes
  abbrev pub ByNewKey : (Text → Type 0) → Type 0
  ByNewKey Does = (contains_by (has_bytes key) (map_of old) ≡ false)
      × ByCopy (has_bytes key) (0 < length key) Does ((code ≡ no_memory) × (new ≡ old) × IsKept)

  -- the key is present, and nothing changes; or the pair is put. The bytes and the length of an evicted key are output too
  unfoldable pub PutsText : Type 0
  PutsText = ((contains_by (has_bytes key) (map_of old) ≡ true) × (code ≡ present) × (new ≡ old) × IsKept)
      ⊎ ByNewKey (λ own. PutsOne text_eq text_hash own value (text_copied bytes len) before old code new (bytes_after, len_after) after)

  -- the same; or the value under the present key is another one, and its pair is touched
  unfoldable pub UpsertsTextInto : Type 0
  UpsertsTextInto =
      ((own : Text) × (code ≡ present) × Replaces text_eq (map_of old) (has_bytes key) (own, after) value (map_of new)
      × IsWritten true (has_bytes key) text_eq true old new × (bytes_after ≡ bytes) × (len_after ≡ len))
      ⊎ ByNewKey (λ own. UpsertsInto text_eq text_hash own value (text_copied bytes len) before old code new (bytes_after, len_after) after)
