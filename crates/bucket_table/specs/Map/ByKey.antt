-- What a call by key does to a table, stated of its map. A reply that isn't stated is impossible.
use Rattle.std.specs.Prelude.{OnErr, OnOk, ℕ, ◌≡◌, ◌<◌, Bool, true, false, List, Option, Some, None, Result, Ok, Err, length}
use Rattle.std.specs.Borrow.{Bor, MutBor}
use Rattle.bucket_slots.specs.BucketView.{BucketView, Place, bucket_with_value, slot_in}
use Rattle.bucket_slots.specs.Clearing.{slots_after_insertion}
use Rattle.bucket_slots.specs.Digested.{AnswersInsertion, HasNoSlot}
use Rattle.bucket_slots.specs.Slots.{live_pair}
use Rattle.bucket_table.specs.Views.ArraysView.{ArraysView, TableView, pairs_of}
use Rattle.bucket_table.specs.Resize.Asking.{RemovesAndShrinks}
use Rattle.bucket_table.specs.Map.LookingUp.{IsAbsent, IsThere}
use Rattle.bucket_table.specs.Map.MapState.{MapState, KeepsPairs, AddsPair, TakesPair, ChangesValue}
use Rattle.bucket_table.specs.Map.Preparing.{IsPrepared}
use Rattle.bucket_table.specs.Views.Sides.{bucket_on, buckets_on, with_bucket}
use Rattle.bucket_slots.specs.declared.not_inserted.NotInserted.{NotInserted}
use Rattle.bucket_slots.specs.declared.not_inserted.NotInserted.TheVariants.{Present, Memory}
use Rattle.bucket_table.specs.declared.arrays.side.Side.{Side}

-- a live slot of a bucket of one side has a pair with a matching key
pub record StandsAt {K V : Type 0} (matches : K → Bool) (arrays : ArraysView K V) (side : Side) (index : ℕ) (at : Place) : Type 0 where
  pub pair : K × V
  pub within : index < length (buckets_on arrays side)
  pub slot : live_pair (slot_in (bucket_on arrays side index) at) ≡ Some pair
  pub there : IsThere matches (pairs_of arrays) pair

-- why a pair that wasn't inserted is returned: an equal key is in the map, or allocation failed, and then none is
abbrev pub ReturnsPair : {K V : Type 0} → (K → K → Bool) → K → V → List (K × V) → NotInserted K V → Type 0
ReturnsPair {K} {V} eq key value pairs (Present k v) = (k ≡ key) × (v ≡ value) × ((pair : K × V) × IsThere (λ own. eq own key) pairs pair)
ReturnsPair eq key value pairs (Memory k v) = (k ≡ key) × (v ≡ value) × IsAbsent (λ own. eq own key) pairs

module _ {K V H : Type 0} (matches : K → Bool) where
  -- a matching pair is removed, and there is none exactly if no key matches
  abbrev pub Takes : MapState K V H → Option (K × V) → MapState K V H → Type 0
  Takes old (Some pair) new = (matches pair.0 ≡ true) × TakesPair old pair new
  Takes old None new = IsAbsent matches old.pairs × KeepsPairs old new

  -- the value of a matching key is replaced, and the previous one is returned; if no key matches, the value is
  abbrev pub Swaps : V → MapState K V H → Result V V → MapState K V H → Type 0
  Swaps value old (Ok earlier) new = (found : K) × (matches found ≡ true) × ChangesValue old (found, earlier) value new
  Swaps value old (Err back) new = (back ≡ value) × IsAbsent matches old.pairs × KeepsPairs old new

  -- a matching pair is read and made a tombstone, and the map is without it; the result is `None` exactly if no key matches
  abbrev pub Marks : {R : Type 0} → (Bor K → Bor V → R → Type 0) → MapState K V H → Option R → MapState K V H → Type 0
  Marks reads old (Some answer) new =
      (own : Bor K) × (value : Bor V) × reads own value answer × (matches own.now ≡ true) × TakesPair old (own.now, value.now) new
  Marks reads old None new = IsAbsent matches old.pairs × KeepsPairs old new

  -- a matching pair is touched: the map stays, and the result is whether there is one
  abbrev pub Touches : MapState K V H → Bool → MapState K V H → Type 0
  Touches old true new = ((pair : K × V) × IsThere matches old.pairs pair) × KeepsPairs old new
  Touches old false new = IsAbsent matches old.pairs × KeepsPairs old new

  -- a matching pair is passed to a function, and its value is what was written; the result is `None` exactly if no key matches
  abbrev pub Rewrites : {R : Type 0} → (Bor K → MutBor V → R → MutBor V → Type 0) → MapState K V H → Option R → MapState K V H
      → Type 0
  Rewrites changes old (Some answer) new =
      (own : Bor K) × (before after : MutBor V) × changes own before answer after × (matches own.now ≡ true)
      × ChangesValue old (own.now, before.now) after.now new
  Rewrites changes old None new = IsAbsent matches old.pairs × KeepsPairs old new

module _ {K V H : Type 0} (eq : K → K → Bool) (key : K) where
  -- a pair is inserted if its key is absent; otherwise, or if allocation fails, it is returned
  abbrev pub Inserts : {A : Type 0} → V → MapState K V H → Result A (NotInserted K V) → MapState K V H → Type 0
  Inserts value old (Ok done) new = IsAbsent (λ own. eq own key) old.pairs × AddsPair old (key, value) new
  Inserts value old (Err why) new = ReturnsPair eq key value old.pairs why × KeepsPairs old new

  -- a pair is inserted if its key is absent; otherwise its value is replaced and the previous one returned; a pair that isn't inserted is
  -- returned
  abbrev pub Upserts : V → MapState K V H → Result (Option V) (K × V) → MapState K V H → Type 0
  Upserts value old (Ok None) new = IsAbsent (λ own. eq own key) old.pairs × AddsPair old (key, value) new
  Upserts value old (Ok (Some earlier)) new = (found : K) × (eq found key ≡ true) × ChangesValue old (found, earlier) value new
  Upserts value old (Err back) new = (back ≡ (key, value)) × IsAbsent (λ own. eq own key) old.pairs × KeepsPairs old new

-- a pair is removed, or the map stays
abbrev pub Evicts : {K V H E : Type 0} → MapState K V H → Result (Option (K × V)) E → MapState K V H → Type 0
Evicts old (Ok (Some pair)) new = TakesPair old pair new
Evicts old (Ok None) new = KeepsPairs old new
Evicts old (Err refused) new = KeepsPairs old new

-- a bucket as an insertion leaves it: with the pair if it was inserted, and otherwise unchanged
abbrev pub InsertsIn : {K V : Type 0} → (K → K → Bool) → K → V → ℕ → ℕ → (ℕ → Bool) → BucketView K V → Result (Unit {0}) (NotInserted K V)
    → (BucketView K V → Type 0) → Type 0
InsertsIn {K} {V} eq key value byte kind keeps old result Ends =
    (left : BucketView K V) × AnswersInsertion eq key value byte kind keeps old result
    × OnOk result (left ≡ slots_after_insertion kind keeps old (key, value) byte) × OnErr result (left ≡ old) × Ends left

-- first a unit is worked and the sources of a hash's home move, as for a look-up, and then this is done
pub record PreparesThen {K V H : Type 0} (kind hash : ℕ) (old : TableView K V H) (Then : TableView K V H → Type 0) : Type 0 where
  pub between : TableView K V H
  pub prepared : IsPrepared kind hash old between
  pub done : Then between

module _ {K V H : Type 0} (matches : K → Bool) (change : BucketView K V → Place → BucketView K V) where
  -- a place with a matching pair is changed, and nothing else is
  abbrev pub ChangesPlace : Side → ℕ → Place → TableView K V H → TableView K V H → Type 0
  ChangesPlace side index at old new = StandsAt matches old.arrays side index at
      × (new ≡ with_bucket old side index (change (bucket_on old.arrays side index) at))

  -- if a matching pair was found, its place is changed, and nothing else; otherwise nothing changes
  abbrev pub ChangesAt : Bool → TableView K V H → TableView K V H → Type 0
  ChangesAt true old new = (side : Side) × (index : ℕ) × (at : Place) × StandsAt matches old.arrays side index at
      × (new ≡ with_bucket old side index (change (bucket_on old.arrays side index) at))
  ChangesAt false old new = new ≡ old

  -- if a matching pair was found, its place is changed, and if the bucket then has no live pair, the arrays may shrink, by the plan or by
  -- the number of remaining pairs; otherwise nothing changes
  abbrev pub ShrinksAt : Option ℕ → Bool → TableView K V H → TableView K V H → Type 0
  ShrinksAt left true old new = (side : Side) × (index : ℕ) × (at : Place) × StandsAt matches old.arrays side index at
      × RemovesAndShrinks left old.arrays side index (change (bucket_on old.arrays side index) at) new.arrays
  ShrinksAt left false old new = new ≡ old

-- if a matching pair was found, its value is replaced, and nothing else changes; otherwise nothing changes
abbrev pub WritesAt : {K V H : Type 0} → (K → Bool) → Bool → TableView K V H → TableView K V H → Type 0
WritesAt {K} {V} matches true old new = (value : V) × ChangesAt matches (λ bucket at. bucket_with_value bucket at value) true old new
WritesAt matches false old new = new ≡ old

-- the pair is inserted into the bucket that was found, and none is inserted if none was found; otherwise nothing changes, and allocation
-- fails only if none was found, or one without a free slot
abbrev pub InsertsAt : {K V H A : Type 0} → ℕ → (ℕ → Bool) → K × V → ℕ → TableView K V H → Result A (NotInserted K V)
    → Result (Side × ℕ) (Unit {0}) → TableView K V H → Type 0
InsertsAt kind keeps pair byte old (Ok done) (Ok found) new =
    new ≡ with_bucket old found.0 found.1 (slots_after_insertion kind keeps (bucket_on old.arrays found.0 found.1) pair byte)
InsertsAt kind keeps pair byte old (Ok done) (Err refused) new = ⊥
InsertsAt kind keeps pair byte old (Err (Present k v)) answer new = new ≡ old
InsertsAt kind keeps pair byte old (Err (Memory k v)) (Ok found) new =
    HasNoSlot kind keeps (bucket_on old.arrays found.0 found.1) × (new ≡ old)
InsertsAt kind keeps pair byte old (Err (Memory k v)) (Err refused) new = new ≡ old

-- the same, but if the key was found, the value of its pair is replaced, even if no bucket was found for a writer
abbrev pub UpsertsAt : {K V H : Type 0} → (K → K → Bool) → ℕ → (ℕ → Bool) → K → V → ℕ → TableView K V H → Result (Option V) (K × V)
    → Result (Side × ℕ) (Unit {0}) → TableView K V H → Type 0
UpsertsAt eq kind keeps key value byte old (Ok None) (Ok found) new =
    new ≡ with_bucket old found.0 found.1 (slots_after_insertion kind keeps (bucket_on old.arrays found.0 found.1) (key, value) byte)
UpsertsAt eq kind keeps key value byte old (Ok None) (Err refused) new = ⊥
UpsertsAt eq kind keeps key value byte old (Ok (Some earlier)) answer new =
    ChangesAt (λ own. eq own key) (λ bucket at. bucket_with_value bucket at value) true old new
UpsertsAt eq kind keeps key value byte old (Err back) (Ok found) new =
    HasNoSlot kind keeps (bucket_on old.arrays found.0 found.1) × (new ≡ old)
UpsertsAt eq kind keeps key value byte old (Err back) (Err refused) new = new ≡ old
