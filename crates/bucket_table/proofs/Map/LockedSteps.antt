-- What is left of a table's arrays after one bucket is replaced.
use Rattle.bucket_table.proofs.Words.{ArraysView, BucketView, Err, IsPermutation-cons, IsPermutation-trans, Keeps}
use Rattle.bucket_table.proofs.Words.{KeepsPairs, MapState, Ok, OnErr, OnOk, Option, Place, Result, Side, Slot, Some, TableView}
use Rattle.bucket_table.proofs.Words.{TakesPair, ℕ, [], ap, arrays_with, bucket_at, bucket_on, buckets_on, empty_bucket, free}
use Rattle.bucket_table.proofs.Words.{get_or-set_same, is_live, length, live, live_pair, pairs_in, refl, slot_in, subst, true, with_bucket}
use Rattle.bucket_table.proofs.Words.{◌<◌, ◌∙◌, ◌∷◌, ◌≡◌}
use Rattle.bucket_slots.specs.Slots.{marked as marked_slot}
use Rattle.bucket_table.specs.Resize.Asking.{RemovesAndShrinks, ShrinksBy}
use Rattle.bucket_table.specs.Map.MapState.{state_of}
use Rattle.bucket_table.proofs.Map.MapKept.{state_found}
use Rattle.bucket_table.proofs.Views.SideChanges.{arrays_with-same, buckets_on-arrays_with}

-- a live slot has a pair
live_has : {K V : Type 0} (x : Slot K V) → is_live x ≡ true → (p : K × V) × (live_pair x ≡ Some p)
live_has free h = absurd cc
live_has (live p byte) h = (p, refl)
live_has (marked_slot p byte) h = absurd cc

pub pair_there : {K V : Type 0} (b : BucketView K V) (place : Place)
    → is_live (slot_in b place) ≡ true → (p : K × V) × (live_pair (slot_in b place) ≡ Some p)
pair_there b place h = live_has (slot_in b place) h

-- what follows for an error
pub on_err : {A E P Q : Type 0} (r : Result A E) → (P → Q) → OnErr r P → OnErr r Q
on_err (Ok x) f h = tt
on_err (Err e) f h = f h

pub ok_not_err : {A E : Type 0} {x : A} {e : E} → ◌≡◌ {A = Result A E} (Ok x) (Err e) → ⊥
ok_not_err same = cc

module _ {K V : Type 0} where
  -- the bucket is where it was stored
  pub put_there : (a : ArraysView K V) (side : Side) (i : ℕ) (b : BucketView K V)
      → i < length (buckets_on a side) → bucket_at (buckets_on (arrays_with a side i b) side) i ≡ b
  put_there a side i b within = rw (buckets_on-arrays_with a side i b) (get_or-set_same (buckets_on a side) i b empty_bucket within)

  -- and if that bucket is empty, the arrays may shrink
  pub shrinks_after : (left : Option ℕ) (a : ArraysView K V) (side : Side) (i : ℕ) (b : BucketView K V) (new : ArraysView K V)
      → i < length (buckets_on a side)
      → ShrinksBy left (pairs_in (bucket_at (buckets_on (arrays_with a side i b) side) i) ≡ []) i (arrays_with a side i b) new
      → RemovesAndShrinks left a side i b new
  shrinks_after left a side i b new within h =
      subst (λ (x : BucketView K V). ShrinksBy left (pairs_in x ≡ []) i (arrays_with a side i b) new) (put_there a side i b within) h

module _ {K V H : Type 0} where
  -- a bucket that is replaced, and one that is the same
  pub with_same : (hasher : H) (a : ArraysView K V) (side : Side) (i : ℕ) (b c : BucketView K V) → b ≡ c
      → ◌≡◌ {A = TableView K V H} (record { hasher = hasher; arrays = arrays_with a side i b })
      (record { hasher = hasher; arrays = arrays_with a side i c })
  with_same hasher a side i b c same = ap (λ (d : BucketView K V). record { hasher = hasher; arrays = arrays_with a side i d }) same

  pub with_own : (hasher : H) (a : ArraysView K V) (side : Side) (i : ℕ) (b : BucketView K V) → b ≡ bucket_at (buckets_on a side) i
      → ◌≡◌ {A = TableView K V H} (record { hasher = hasher; arrays = arrays_with a side i b }) (record { hasher = hasher; arrays = a })
  with_own hasher a side i b same = rw same (ap (λ (d : ArraysView K V). record { hasher = hasher; arrays = d })
      (arrays_with-same a side i))

  -- the same bucket if the call fails
  pub same_if_err : {A E : Type 0} (r : Result A E) (hasher : H) (a : ArraysView K V) (s : TableView K V H) (side : Side) (i : ℕ)
      (b : BucketView K V) → record { hasher = hasher; arrays = a } ≡ s → OnErr r (b ≡ bucket_at (buckets_on a side) i)
      → OnErr r (record { hasher = hasher; arrays = arrays_with a side i b } ≡ s)
  same_if_err r hasher a s side i b is kept = on_err r (λ same. with_own hasher a side i b same ∙ is) kept

  -- another bucket if a call succeeds: t is the table inside, and s the table in the contract
  pub put_if_ok : {A E : Type 0} (r : Result A E) (t s : TableView K V H) (side : Side) (i : ℕ) (b : BucketView K V) (f : BucketView K V
      → BucketView K V)
      → t ≡ s → OnOk r (b ≡ f (bucket_on t.arrays side i))
      → OnOk r (with_bucket t side i b ≡ with_bucket s side i (f (bucket_on s.arrays side i)))
  put_if_ok (Ok x) t s side i b f is put = subst (λ (z : TableView K V H). with_bucket t side i b ≡ with_bucket z side i
      (f (bucket_on z.arrays side i))) is
      (ap (λ (c : BucketView K V). with_bucket t side i c) put)
  put_if_ok (Err e) t s side i b f is put = tt

  -- one pair less, and then another order
  pub taken_then : (a b d : MapState K V H) (p : K × V) → TakesPair a p b → KeepsPairs b d → TakesPair a p d
  taken_then a b d p takes keeps = record {
    pairs = IsPermutation-trans a.pairs (p ∷ b.pairs) (p ∷ d.pairs) takes.pairs (IsPermutation-cons p b.pairs d.pairs keeps.pairs);
    others = keeps.others ∙ ap (λ (m : MapState K V H). record m { pairs = d.pairs }) takes.others;
  }

  pub taken_through : (kind : ℕ) (m : MapState K V H) (hasher : H) (a new : ArraysView K V) (p : K × V)
      → TakesPair m p (state_of kind (record { hasher = hasher; arrays = a })) → Keeps a new
      → TakesPair m p (state_of kind (record { hasher = hasher; arrays = new }))
  taken_through kind m hasher a new p takes kept = taken_then m _ _ p takes (state_found kind hasher a new kept)
