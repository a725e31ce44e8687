-- What a call does to a map or a set that is given a key in some form, and makes the key itself only if the map does not contain it.
use Rattle.std.specs.Prelude.{ℕ, ◌≡◌, ◌+◌, ◌%◌, ◌^◌, ◌⊎◌, Bool, true, false, cond, nat_eq, option_map, unwrap_or}
use Rattle.collections.specs.Changes.{Replaces}
use Rattle.collections.specs.Maps.{MapView, contains_by, get_by}
use Rattle.bucket_calls.specs.Codes.{no_memory, present}
use Rattle.bucket_calls.specs.Maps.{InsertsOne}

-- it does this with a matching key, which it made; or allocation failed for such a key
abbrev pub ByCopy : {K : Type 0} → (K → Bool) → Type 0 → (K → Type 0) → Type 0 → Type 0
ByCopy {K} matches MayFail Does Fails = ((own : K) × (matches own ≡ true) × Does own) ⊎ (MayFail × Fails)

-- what is output, and what is left there if allocation failed
abbrev pub unless_refused : {A : Type 0} → ℕ → A → A → A
unless_refused code before after = cond (nat_eq code no_memory) before after

-- a sum of two words
abbrev pub word_sum : ℕ → ℕ → ℕ
word_sum one other = (one + other) % 2 ^ 64

module _ {K H : Type 0} (eq : K → K → Bool) (hash_of : H → K → ℕ) (matches : K → Bool) (MayFail : Type 0) where
  -- no key matches, and a pair is added: an insertion of a matching key; or allocation failed for the key, and nothing changes
  abbrev pub AddsCopy : {V : Type 0} → V → MapView K V H → ℕ → MapView K V H → Type 0
  AddsCopy value old code new = (contains_by matches old ≡ false)
      × ByCopy matches MayFail (λ own. InsertsOne eq hash_of own value old code new) ((code ≡ no_memory) × (new ≡ old))

  -- the key is present, and nothing changes; or a pair is added
  unfoldable pub InsertsCopy : {V : Type 0} → V → MapView K V H → ℕ → MapView K V H → Type 0
  InsertsCopy value old code new =
      ((contains_by matches old ≡ true) × (code ≡ present) × (new ≡ old)) ⊎ AddsCopy value old code new

  -- the key is present, and its value is another one, made from the earlier one; or a pair is added
  unfoldable pub PutsCopy : {V : Type 0} → (V → V) → V → MapView K V H → ℕ → MapView K V H → Type 0
  PutsCopy {V} later value old code new =
      ((own : K) × (held : V) × (code ≡ present) × Replaces eq old matches (own, held) (later held) new) ⊎ AddsCopy value old code new

  -- the value is put, and the earlier one is output, if there is one
  abbrev pub UpsertsCopy : {V : Type 0} → V → V → MapView K V H → ℕ → MapView K V H → V → Type 0
  UpsertsCopy value before old code new after =
      PutsCopy (λ held. value) value old code new × (after ≡ unwrap_or (get_by matches old) before)

  -- a word is added to the present one, modulo 2^64, or to 0, and the sum is output
  abbrev pub AddsTo : ℕ → ℕ → MapView K ℕ H → ℕ → MapView K ℕ H → ℕ → Type 0
  AddsTo amount before old code new after = PutsCopy (λ held. word_sum held amount) amount old code new
      × (after ≡ unless_refused code before (unwrap_or (option_map (λ held. word_sum held amount) (get_by matches old)) amount))

  -- a pair is inserted, and the value that is then present is output
  abbrev pub GetsOrInserts : {V : Type 0} → V → V → MapView K V H → ℕ → MapView K V H → V → Type 0
  GetsOrInserts value before old code new after = InsertsCopy value old code new
      × (after ≡ unless_refused code before (unwrap_or (get_by matches old) value))
