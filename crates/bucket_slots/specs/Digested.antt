-- What calls on a bucket of an array do that search it and then remove or insert a pair.
use Rattle.std.specs.Prelude.{ℕ, ◌≡◌, Bool, Option, Some, None, Result, Ok, Err, List, length, slice_set}
use Rattle.bucket_slots.specs.ArrayView.{bucket_at}
use Rattle.bucket_slots.specs.BucketView.{BucketView, Place, bucket_with_value, first_place, pairs_in, slot_in}
use Rattle.bucket_slots.specs.Clearing.{slots_after_insertion, slots_for_insertion}
use Rattle.bucket_slots.specs.Removing.{slots_without}
use Rattle.bucket_slots.specs.Searching.{place_matched}
use Rattle.bucket_slots.specs.Slots.{is_free, live_pair}
use Rattle.bucket_slots.specs.declared.not_inserted.NotInserted.{NotInserted}
use Rattle.bucket_slots.specs.declared.not_inserted.NotInserted.TheVariants.{Memory, Present}

-- the pair of the first matching slot of a bucket is removed, and `left` live pairs are left there
pub record TakesFirst {K V : Type 0} (matches : K → Bool) (byte index : ℕ) (old : List (BucketView K V)) (pair : K × V) (left : ℕ)
    (new : List (BucketView K V)) : Type 0 where
  pub at : Place
  pub found : place_matched matches byte (bucket_at old index) ≡ Some at
  pub taken : live_pair (slot_in (bucket_at old index) at) ≡ Some pair
  pub changed : new ≡ slice_set old index (slots_without (bucket_at old index) at)
  pub left_is : left ≡ length (pairs_in (slots_without (bucket_at old index) at))

-- the result is `None` exactly if no slot matches, and nothing changes
abbrev pub TakesMatched : {K V : Type 0} → (K → Bool) → ℕ → ℕ → List (BucketView K V) → Option ((K × V) × ℕ) → List (BucketView K V)
    → Type 0
TakesMatched matches byte index old (Some found) new = TakesFirst matches byte index old found.0 found.1 new
TakesMatched matches byte index old None new = (new ≡ old) × (place_matched matches byte (bucket_at old index) ≡ None)

-- a new pair finds no free slot in a bucket
abbrev pub HasNoSlot : {K V : Type 0} → ℕ → (ℕ → Bool) → BucketView K V → Type 0
HasNoSlot kind keeps bucket = first_place is_free (slots_for_insertion kind keeps bucket) ≡ None

-- an insertion into a bucket: if the pair was inserted, no live slot had an equal key; if allocation failed, none had either, and no slot
-- is free; if the result is that the key is present, a live slot has it; a pair that isn't inserted is returned
abbrev pub AnswersInsertion : {K V A : Type 0} → (K → K → Bool) → K → V → ℕ → ℕ → (ℕ → Bool) → BucketView K V → Result A (NotInserted K V)
    → Type 0
AnswersInsertion eq key value byte kind keeps bucket (Ok done) = place_matched (λ own. eq own key) byte bucket ≡ None
AnswersInsertion eq key value byte kind keeps bucket (Err (Present k v)) =
    (k ≡ key) × (v ≡ value) × ((at : Place) × (place_matched (λ own. eq own key) byte bucket ≡ Some at))
AnswersInsertion eq key value byte kind keeps bucket (Err (Memory k v)) =
    (k ≡ key) × (v ≡ value) × (place_matched (λ own. eq own key) byte bucket ≡ None) × HasNoSlot kind keeps bucket

-- a pair is inserted into a bucket if no live slot has an equal key, and otherwise its value is replaced; a pair that isn't inserted is
-- returned, and then no slot is free
abbrev pub UpsertsIn : {K V : Type 0} → (K → K → Bool) → K → V → ℕ → ℕ → (ℕ → Bool) → BucketView K V → Result (Option V) (K × V)
    → BucketView K V → Type 0
UpsertsIn eq key value byte kind keeps old (Ok None) new =
    (place_matched (λ own. eq own key) byte old ≡ None) × (new ≡ slots_after_insertion kind keeps old (key, value) byte)
UpsertsIn {K} eq key value byte kind keeps old (Ok (Some earlier)) new =
    (at : Place) × (found : K) × (place_matched (λ own. eq own key) byte old ≡ Some at)
    × (live_pair (slot_in old at) ≡ Some (found, earlier)) × (new ≡ bucket_with_value old at value)
UpsertsIn eq key value byte kind keeps old (Err back) new =
    (back ≡ (key, value)) × (place_matched (λ own. eq own key) byte old ≡ None) × (new ≡ old)
    × HasNoSlot kind keeps old
