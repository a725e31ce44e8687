-- The stored count of a table's pairs.
use Rattle.bucket_table.proofs.Words.{AddsPair, ArePlaced, ArraysView, Bool, BucketView, ChangesValue, Err, IfNone, IfSome, IsEquivalence}
use Rattle.bucket_table.proofs.Words.{IsOneMap, IsPermutation, Keeps, KeepsPairs, List, MapState, None, Ok, OnErr, OnOk, Option, Result}
use Rattle.bucket_table.proofs.Words.{Side, Some, TakesPair, [], ap, arith, arrays_with, bucket_at, bucket_on, buckets_on, counted_to}
use Rattle.bucket_table.proofs.Words.{empty_bucket, entries_of, first_tickets, if◌then◌else◌, length, length-append, length_permutation}
use Rattle.bucket_table.proofs.Words.{min, pairs_in, pairs_of, refl, sym, ℕ, ◌+◌, ◌-◌, ◌<◌, ◌^◌, ◌∙◌, ◌≡◌}
use Rattle.std.specs.Prelude.{is_ok, is_some}
use Rattle.bucket_table.specs.Map.ByKey.{Inserts, Takes, Upserts}
use Rattle.bucket_table.specs.Map.Counting.{CountsAfter, IsCountedMap, put_count}
use Rattle.bucket_table.specs.Map.MapState.{state_of}
use Rattle.bucket_table.specs.Map.Putting.{Puts, ReplacesPair}
use Rattle.bucket_slots.specs.declared.not_inserted.NotInserted.{NotInserted}
use Rattle.bucket_table.specs.Walking.Row.{row_of, row_with}
use Rattle.bucket_table.proofs.Map.CountSteps.{length-pairs_of}
use Rattle.bucket_table.proofs.Map.LockedSteps.{put_there}
use Rattle.bucket_table.proofs.Map.MapKept.{keeps_pairs, nothing_kept, one_map_kept}
use Rattle.bucket_table.proofs.Map.MapSteps.{splits}
use Rattle.bucket_table.proofs.Views.SideChanges.{arrays_with-same}
use Rattle.bucket_table.proofs.Walking.Row.{stands}

module _ {K V : Type 0} {eq : K → K → Bool} {hash : K → ℕ} {old new : ArraysView K V} {count : ℕ} (was : IsCountedMap eq hash old count)
    (one : IsOneMap eq hash new) where
  -- the number of pairs is the same
  pub counted_same : length (pairs_of old) ≡ length (pairs_of new) → IsCountedMap eq hash new count
  counted_same len = record { one_map = one; counted = was.counted ∙ ap (λ (n : ℕ). min n (2 ^ 64 - 1)) len }

  -- some were removed and some inserted
  pub counted_after : (gone added : ℕ) {result : ℕ} → length (pairs_of old) + added ≡ length (pairs_of new) + gone
      → CountsAfter count gone added (pairs_of new) result → IsCountedMap eq hash new result
  counted_after gone added len counts = record { one_map = one; counted = counts _ was.counted len }

-- they are counted again
pub counted_anew : {K V : Type 0} {eq : K → K → Bool} {hash : K → ℕ} {arrays : ArraysView K V} {count : ℕ} → IsOneMap eq hash arrays
    → count ≡ counted_to (entries_of arrays) → IsCountedMap eq hash arrays count
counted_anew {arrays} one is =
    record { one_map = one; counted = is ∙ ap (λ (n : ℕ). min n (2 ^ 64 - 1)) (sym (length-pairs_of arrays)) }

-- without an array there is none
pub nothing_counted : {K V : Type 0} (eq : K → K → Bool) (hash : K → ℕ) (minimum maximum : ℕ) → IsCountedMap {V = V} eq hash (record {
  minimum = minimum;
  maximum = maximum;
  current = [];
  linked = [];
  tickets = first_tickets 0;
}) 0
nothing_counted eq hash minimum maximum = record { one_map = nothing_kept eq hash minimum maximum; counted = refl }

-- one bucket is replaced
pub len_with : {K V : Type 0} (a : ArraysView K V) (side : Side) (i : ℕ) (b : BucketView K V) → i < length (buckets_on a side)
    → length (pairs_of a) + length (pairs_in b) ≡ length (pairs_of (arrays_with a side i b)) + length (pairs_in (bucket_on a side i))
len_with a side i b within =
    let apart = splits a side i b within in
    let before = length_permutation _ _ apart.before in
    let after = length_permutation _ _ apart.after in
    let rest = pairs_of (arrays_with a side i empty_bucket) in
    omega (arith, before, after, length-append (pairs_in (bucket_on a side i)) rest, length-append (pairs_in b) rest)

-- or stays
pub len_unevicted : {K V A : Type 0} (a : ArraysView K V) (side : Side) (i : ℕ) (b : BucketView K V) (r : Option A)
    → IfNone r (b ≡ bucket_on a side i) → IfNone r (length (pairs_of a) ≡ length (pairs_of (arrays_with a side i b)))
len_unevicted a side i b None same = rw (same, arrays_with-same a side i) refl
len_unevicted a side i b (Some x) same = tt

pub len_unplaced : {K V A E : Type 0} (a : ArraysView K V) (side : Side) (i : ℕ) (b : BucketView K V) (r : Result A E)
    → OnErr r (b ≡ bucket_on a side i) → OnErr r (length (pairs_of a) ≡ length (pairs_of (arrays_with a side i b)))
len_unplaced a side i b (Ok x) same = tt
len_unplaced a side i b (Err e) same = rw (same, arrays_with-same a side i) refl

-- the same, if the number of pairs in the bucket was read afterwards
pub len_left : {K V : Type 0} (a : ArraysView K V) (side : Side) (i : ℕ) (b : BucketView K V) (new : ArraysView K V) (before after : ℕ)
    → i < length (buckets_on a side) → new ≡ arrays_with a side i b → before ≡ length (pairs_in (bucket_on a side i))
    → after ≡ length (pairs_in (bucket_on new side i)) → length (pairs_of a) + after ≡ length (pairs_of new) + before
len_left a side i b new before after within is was left = rw (is, was, left) (
    rw (is, put_there a side i b within) (len_with a side i b within))

-- and for the row
pub len_in_row : {K V : Type 0} (a : ArraysView K V) (index : ℕ) (b : BucketView K V) (gone : ℕ) → index < length (row_of a)
    → length (pairs_in (bucket_at (row_of a) index)) ≡ gone + length (pairs_in b)
    → length (pairs_of a) + 0 ≡ length (pairs_of (row_with a index b)) + gone
len_in_row a index b gone within counted =
    let on = stands a index within in
    let len = len_with a on.side on.own b on.within in
    let here = ap (λ bucket. length (pairs_in bucket)) on.bucket in
    rw (on.with b) (omega (arith, len, here, counted))

-- a call that keeps the pairs keeps their count
pub map_kept : {K V : Type 0} (eq : K → K → Bool) → IsEquivalence eq → (hash : K → ℕ) (old new : ArraysView K V) {count : ℕ}
    → IsCountedMap eq hash old count → Keeps old new → ArePlaced hash new → IsCountedMap eq hash new count
map_kept eq laws hash old new was kept placed =
    counted_same was (one_map_kept eq laws hash old new was.one_map kept placed) (sym (length_permutation _ _ (keeps_pairs old new kept)))

pub len_kept : {A : Type 0} (xs ys : List A) → IsPermutation xs ys → length xs ≡ length ys
len_kept xs ys moved = sym (length_permutation xs ys moved)

module _ {K V H : Type 0} where
  pub len_written : {old new : MapState K V H} {p : K × V} {value : V} → ChangesValue old p value new → length old.pairs ≡ length new.pairs
  len_written x =
      let before = length_permutation _ _ x.before in
      let after = length_permutation _ _ x.after.pairs in
      omega (arith, before, after)

  pub len_taken : {old new : MapState K V H} {p : K × V} → TakesPair old p new → length old.pairs + 0 ≡ length new.pairs + 1
  len_taken x = let len = length_permutation _ _ x.pairs in omega (arith, len)

  pub len_added : {old new : MapState K V H} {p : K × V} → AddsPair old p new → length old.pairs + 1 ≡ length new.pairs + 0
  len_added x = let len = length_permutation _ _ x.pairs in omega (arith, len)

  pub len_replaced : {old new : MapState K V H} {gone pair : K × V} → ReplacesPair old gone pair new → length old.pairs ≡ length new.pairs
  len_replaced x =
      let before = length_permutation _ _ x.before in
      let after = length_permutation _ _ x.after.pairs in
      omega (arith, before, after)

  pub len_placed : {A : Type 0} (pair : K × V) (old new : MapState K V H) (r : Result A (K × V)) (n : ℕ) → n ≡ (if is_ok r then 1 else 0)
      → OnOk r (AddsPair old pair new) → OnErr r (length old.pairs ≡ length new.pairs) → length old.pairs + n ≡ length new.pairs + 0
  len_placed pair old new (Ok at) n is x same = rw is (len_added x)
  len_placed pair old new (Err back) n is x same = omega (arith, is, same)

  pub len_evicted : (old new : MapState K V H) (r : Option (K × V)) (n : ℕ) → n ≡ (if is_some r then 1 else 0)
      → IfSome r (λ p. TakesPair old p new) → IfNone r (length old.pairs ≡ length new.pairs)
      → length old.pairs + 0 ≡ length new.pairs + n
  len_evicted old new None n is x same = omega (arith, is, same)
  len_evicted old new (Some pair) n is x same = rw is (len_taken x)

module _ {K V H : Type 0} (kind : ℕ) (hasher : H) (a b : ArraysView K V) where
  abbrev old : MapState K V H
  old = state_of kind (record { hasher = hasher; arrays = a })

  abbrev new : MapState K V H
  new = state_of kind (record { hasher = hasher; arrays = b })

  -- the number of inserted pairs is that of the result
  pub len_inserted : {A : Type 0} (eq : K → K → Bool) (key : K) (value : V) (r : Result A (NotInserted K V)) (n : ℕ)
      → n ≡ (if is_ok r then 1 else 0) → Inserts eq key value old r new → length (pairs_of a) + n ≡ length (pairs_of b) + 0
  len_inserted eq key value (Ok done) n is x = rw is (len_added x.1)
  len_inserted eq key value (Err why) n is x = let len = length_permutation _ _ x.1.pairs in omega (arith, is, len)

  pub len_upserted : (eq : K → K → Bool) (key : K) (value : V) (r : Result (Option V) (K × V)) (n : ℕ) → n ≡ put_count r
      → Upserts eq key value old r new → length (pairs_of a) + n ≡ length (pairs_of b) + 0
  len_upserted eq key value (Ok None) n is x = rw is (len_added x.1)
  len_upserted eq key value (Ok (Some earlier)) n is x = let len = len_written x.2 in omega (arith, is, len)
  len_upserted eq key value (Err back) n is x = let len = length_permutation _ _ x.2.pairs in omega (arith, is, len)

  pub len_put : (eq : K → K → Bool) (key : K) (value : V) (r : Result (Option (K × V)) (NotInserted K V)) (n : ℕ) → n ≡ put_count r
      → Puts eq key value old r new → length (pairs_of a) + n ≡ length (pairs_of b) + 0
  len_put eq key value (Ok None) n is x = rw is (len_added x.1)
  len_put eq key value (Ok (Some gone)) n is x = let len = len_replaced x.1 in omega (arith, is, len)
  len_put eq key value (Err why) n is x = let len = length_permutation _ _ x.1.pairs in omega (arith, is, len)

  pub len_put_absent : (eq : K → K → Bool) (key : K) (value : V) (gone : Option (K × V)) (n : ℕ) → n ≡ (if is_some gone then 1 else 0)
      → Puts eq key value old (Ok gone) new → length (pairs_of a) + 1 ≡ length (pairs_of b) + n
  len_put_absent eq key value None n is x = rw is (len_added x.1)
  len_put_absent eq key value (Some gone) n is x = let len = len_replaced x.1 in omega (arith, is, len)

  pub len_takes : (matches : K → Bool) (first : MapState K V H) (r : Option (K × V)) (n : ℕ) → n ≡ (if is_some r then 1 else 0)
      → KeepsPairs first old → Takes matches first r new → length (pairs_of a) + 0 ≡ length (pairs_of b) + n
  len_takes matches first None n is kept x =
      omega (arith, is, length_permutation _ _ x.1.pairs, length_permutation _ _ kept.pairs)
  len_takes matches first (Some pair) n is kept x =
      omega (arith, is, length_permutation _ _ x.1.pairs, length_permutation _ _ kept.pairs)
