-- An extraction, which removes pairs from the arrays one by one.
use Rattle.std.specs.Prelude.{ℕ, ◌≡◌, ◌≢◌, ◌⊎◌, Bool, false, not, List, [], ◌∷◌, ◌++◌, Option, Some, None, length}
use Rattle.std.specs.Borrow.{Bor, MutBor}
use Rattle.std.specs.Cmp.{IsEquivalence}
use Rattle.std.specs.List.Retain.{ExtractsNext}
use Rattle.bucket_slots.specs.BucketView.{BucketView, Place, pairs_in}
use Rattle.bucket_slots.specs.ArrayView.{bucket_at}
use Rattle.bucket_slots.specs.Walking.{pairs_ahead}
use Rattle.bucket_slots.specs.declared.bucket.TheConstants.{INDEX}
use Rattle.bucket_table.specs.Views.ArraysView.{ArraysView, IsOneMap, pairs_of}
use Rattle.bucket_table.specs.Walking.Row.{row_of, row_with}
use Rattle.bucket_table.specs.Walking.Retains.{AreLeftOf, IsLeftOf}

-- what contracts see of an extraction: the arrays, and the pairs that the function wasn't called with yet, which are the last ones in them
pub record ExtractView (K V : Type 0) : Type 0 where
  pub arrays : ArraysView K V
  pub left : List (K × V)

-- a function is called with a pair, whose value is lent to it, and returns a truth value; `later` is the pair after the call
abbrev pub AsksPair : {S K V : Type 0} → (S → Bor K → MutBor V → Bool → MutBor V → S → Type 0) → S → K × V → Bool → S → K × V → Type 0
AsksPair {S} {K} {V} step first pair answer last later =
    (own : Bor K) × (before after : MutBor V) × ((own.now, before.now) ≡ pair) × step first own before answer after last
    × (later ≡ (own.now, after.now))

-- only the contents of the buckets of the arrays change
pub record KeepsShape {K V : Type 0} (old new : ArraysView K V) : Type 0 where
  pub minimum : new.minimum ≡ old.minimum
  pub maximum : new.maximum ≡ old.maximum
  pub tickets : new.tickets ≡ old.tickets
  pub current_len : length new.current ≡ length old.current
  pub linked_len : length new.linked ≡ length old.linked

-- a function is called with the remaining pairs, in turn, up to the first that it picks, which is removed; those that it didn't pick stay
-- in their order, as it left them, and no other pair changes; each bucket keeps its other slots and its LRU order
pub record Extracts {S K V : Type 0} (kind : ℕ) (asks : S → K × V → Bool → S → K × V → Type 0) (first : S) (old : ExtractView K V)
    (picked : Option (K × V)) (new : ExtractView K V) (last : S) : Type 0 where
  pub kept : List (K × V)
  pub asked : ExtractsNext asks first old.left picked last kept new.left
  pub stay : (front : List (K × V)) → pairs_of old.arrays ≡ front ++ old.left → pairs_of new.arrays ≡ front ++ (kept ++ new.left)
  pub one_map : (eq : K → K → Bool) → IsEquivalence eq → (hash : K → ℕ) → IsOneMap eq hash old.arrays → IsOneMap eq hash new.arrays
  pub others : KeepsShape old.arrays new.arrays
  pub current : AreLeftOf kind 0 old.arrays.current new.arrays.current
  pub linked : AreLeftOf kind 0 old.arrays.linked new.arrays.linked

-- a function is called with the pair in a live slot: if the result is `keeps`, the pair stays with the value last written, otherwise it is
-- removed, and returned unless the kind is an index; the pairs before it and those ahead stay
pub record AsksAt {S K V : Type 0} (step : S → Bor K → MutBor V → Bool → MutBor V → S → Type 0) (kind : ℕ) (keeps : Bool) (first : S)
    (pair : K × V) (old : BucketView K V) (at : Place) (picked : Option (K × V)) (new : BucketView K V) (to : Place) (last : S)
    : Type 0 where
  pub answer : Bool
  pub later : K × V
  pub stay : List (K × V)
  pub asked : AsksPair step first pair answer last later
  pub outcome : ((answer ≡ keeps) × (stay ≡ later ∷ []) × (picked ≡ None))
      ⊎ ((answer ≡ not keeps) × (stay ≡ []) × (kind ≢ INDEX → picked ≡ Some later))
  pub pairs : (front : List (K × V)) → pairs_in old ≡ front ++ pair ∷ pairs_ahead old at → pairs_in new ≡ front
      ++ (stay ++ pairs_ahead old at)
  pub ahead : pairs_ahead new to ≡ pairs_ahead old at

-- the same, and only one bucket of the row changes
pub record ExtractsAt {S K V : Type 0} (step : S → Bor K → MutBor V → Bool → MutBor V → S → Type 0) (kind : ℕ) (first : S)
    (pair : K × V) (old : ArraysView K V) (index : ℕ) (at : Place) (picked : Option (K × V)) (new : ArraysView K V) (to : Place)
    (last : S) : Type 0 where
  pub left : BucketView K V
  pub slot : AsksAt step kind false first pair (bucket_at (row_of old) index) at picked left to last
  pub slots : IsLeftOf kind 0 (bucket_at (row_of old) index) left
  pub new_is : new ≡ row_with old index left
