-- What a call does to a store, a map from byte strings to byte strings.
use Rattle.std.specs.Prelude.{ℕ, ◌≡◌, ◌<◌, ◌⊎◌, List, Option, Some, None, false, if◌then◌else◌, length, nat_le, true}
use Rattle.collections.specs.Maps.{contains_by}
use Rattle.bucket_calls.specs.Caches.{text_copied}
use Rattle.bucket_calls.specs.Codes.{absent, no_memory, ok, present, too_long}
use Rattle.bucket_calls.specs.Copies.{AddsCopy, ByCopy, PutsCopy}
use Rattle.bucket_calls.specs.Hashing.{text_hash}
use Rattle.bucket_calls.specs.Views.{Maps, Text, has_bytes, text_eq}

-- for a look-up, by the room for a value
abbrev pub room_for_code : ℕ → Option Text → ℕ
room_for_code room None = absent
room_for_code room (Some held) = if nat_le (length held.items) room then ok else too_long

-- the bytes of a value are output, as many as there is room for, and its length
abbrev pub FindsBytes : Option Text → List ℕ → ℕ → ℕ → List ℕ → ℕ → Type 0
FindsBytes found bytes len code after len_after =
    (code ≡ room_for_code (length bytes) found) × ((after, len_after) ≡ text_copied bytes len found)

module _ (key value : List ℕ) where
  -- the key is present, and nothing changes; or a copy of both is added, or allocation failed for a copy of the value, and nothing changes
  unfoldable pub InsertsBytes : Maps Text Text → ℕ → Maps Text Text → Type 0
  InsertsBytes old code new = ((contains_by (has_bytes key) old ≡ true) × (code ≡ present) × (new ≡ old))
      ⊎ ((contains_by (has_bytes key) old ≡ false) × ByCopy (has_bytes value) (0 < length value)
      (λ held. AddsCopy text_eq text_hash (has_bytes key) (0 < length key) held old code new) ((code ≡ no_memory) × (new ≡ old)))

  -- a copy of the value is put, or allocation failed for it, and nothing changes
  unfoldable pub UpsertsBytes : Maps Text Text → ℕ → Maps Text Text → Type 0
  UpsertsBytes old code new = ByCopy (has_bytes value) (0 < length value)
      (λ held. PutsCopy text_eq text_hash (has_bytes key) (0 < length key) (λ earlier. held) held old code new)
      ((code ≡ no_memory) × (new ≡ old))
