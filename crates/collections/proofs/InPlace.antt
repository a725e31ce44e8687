-- The value of a slot is another one: so it is in the list of all pairs, at the same place.
use Rattle.std.proofs.Common.{ℕ, zero, suc, List, [], ◌∷◌, ◌++◌, Bool, true, false, Option, Some, None, ◌≡◌, ◌∙◌, refl, sym, ap, subst}
use Rattle.std.proofs.Common.{length, ◌<◌, ◌*◌, arith, inl, inr, slice_set, map}
use Rattle.std.specs.Cmp.{IsEquivalence}
use Rattle.std.specs.List.{AllByRecursion, IsDistinct, cons_option}
use Rattle.std.specs.Map.{keys_of, set_value}
use Rattle.std.proofs.lemmas.Bool.{cases_Bool}
use Rattle.std.proofs.lemmas.List.{append_assoc, length-append, length-set, map-append}
use Rattle.std.proofs.lemmas.List.Elements.{filter_map-append}
use Rattle.std.proofs.lemmas.Map.Keys.{IsDistinct-head, IsDistinct-tail}
use Rattle.bucket_slots.specs.ArrayView.{bucket_at}
use Rattle.bucket_slots.specs.BucketView.{BucketView, Place, block_at, bucket_with_value, entries_in, flattened, pairs_in, row_at}
use Rattle.bucket_slots.specs.BucketView.{rows_with, slot_in, with_slot_at}
use Rattle.bucket_slots.specs.Slots.{Slot, live, live_entries, live_entry, live_pair, slot_at, slot_with_value}
use Rattle.bucket_slots.proofs.CallerLemmas.{length-entries_in, live_is}
use Rattle.bucket_table.specs.Map.Lending.{with_value}
use Rattle.bucket_table.specs.Rehash.Relocation.{entries_among}
use Rattle.bucket_table.specs.Views.ArraysView.{ArraysView, TableView, entries_of, pairs_of}
use Rattle.bucket_table.specs.Views.Sides.{arrays_with, bucket_on, buckets_on}
use Rattle.bucket_table.specs.Walking.Row.{row_of}
use Rattle.bucket_table.specs.declared.arrays.side.Side.{Side}
use Rattle.bucket_table.specs.declared.arrays.side.Side.TheVariants.{Current, Old}
use Rattle.collections.specs.Maps.{map_of, map_with_value}
use Rattle.bucket_table.specs.Map.LookingUp.{IsThere}
use Rattle.bucket_table.specs.Map.MapState.{ChangesValue, state_of}
use Rattle.collections.specs.Changes.{Holds}
use Rattle.collections.proofs.Buckets.{lens_same}
use Rattle.collections.proofs.Lookups.{IsForm, distinct_permuted, distinct_with}
use Rattle.collections.proofs.Steps.{replaces}

-- an item of a list is another one, at its place
pub record IsSwapped {A : Type 0} (x y : A) (old new : List A) : Type 0 where
  pub front : List A
  pub rest : List A
  pub before : old ≡ front ++ x ∷ rest
  pub after : new ≡ front ++ y ∷ rest

module _ {A : Type 0} (x y : A) where
  swapped_after : (more old new : List A) → IsSwapped x y old new → IsSwapped x y (more ++ old) (more ++ new)
  swapped_after more old new s = record {
    front = more ++ s.front;
    rest = s.rest;
    before = ap (λ l. more ++ l) s.before ∙ sym (append_assoc more s.front (x ∷ s.rest));
    after = ap (λ l. more ++ l) s.after ∙ sym (append_assoc more s.front (y ∷ s.rest));
  }

  swapped_before : (old new more : List A) → IsSwapped x y old new → IsSwapped x y (old ++ more) (new ++ more)
  swapped_before old new more s = record {
    front = s.front;
    rest = s.rest ++ more;
    before = ap (λ l. l ++ more) s.before ∙ append_assoc s.front (x ∷ s.rest) more;
    after = ap (λ l. l ++ more) s.after ∙ append_assoc s.front (y ∷ s.rest) more;
  }

  swapped_more : (o : Option A) (old new : List A) → IsSwapped x y old new → IsSwapped x y (cons_option o old) (cons_option o new)
  swapped_more None old new s = s
  swapped_more (Some z) old new s = swapped_after (z ∷ []) old new s

pub swapped_map : {A B : Type 0} (f : A → B) (x y : A) (old new : List A) → IsSwapped x y old new
    → IsSwapped (f x) (f y) (map f old) (map f new)
swapped_map f x y old new s = record {
  front = map f s.front;
  rest = map f s.rest;
  before = ap (map f) s.before ∙ map-append f s.front (x ∷ s.rest);
  after = ap (map f) s.after ∙ map-append f s.front (y ∷ s.rest);
}

pub swapped_len : {A : Type 0} (x y : A) (old new : List A) → IsSwapped x y old new → length new ≡ length old
swapped_len x y old new s =
    ap length s.after ∙ length-append s.front (y ∷ s.rest) ∙ sym (length-append s.front (x ∷ s.rest)) ∙ sym (ap length s.before)

module _ {K V : Type 0} (p : K × V) (w : V) (b : ℕ) where
  abbrev Swaps : List ((K × V) × ℕ) → List ((K × V) × ℕ) → Type 0
  Swaps old new = IsSwapped (p, b) ((p.0, w), b) old new

  slots_swapped : (slots : List (Slot K V)) (pos : ℕ) → slot_at slots pos ≡ live p b
      → Swaps (live_entries slots) (live_entries (slice_set slots pos (live (p.0, w) b)))
  slots_swapped [] pos is = absurd cc
  slots_swapped (slot ∷ slots) zero is =
      record { front = []; rest = live_entries slots; before = ap (λ s. live_entries (s ∷ slots)) is; after = refl }
  slots_swapped (slot ∷ slots) (suc i) is = swapped_more _ _ (live_entry slot) _ _ (slots_swapped slots i is)

  rows_swapped : (rows : List (List (Slot K V))) (i pos : ℕ) → slot_at (row_at rows i) pos ≡ live p b
      → Swaps (live_entries (flattened rows)) (live_entries (flattened (rows_with rows i pos (live (p.0, w) b))))
  rows_swapped [] i pos is = absurd cc
  rows_swapped (row ∷ rows) zero pos is =
      let new = slice_set row pos (live (p.0, w) b) in
      rw (filter_map-append live_entry row (flattened rows), filter_map-append live_entry new (flattened rows))
      (swapped_before _ _ _ _ (live_entries (flattened rows)) (slots_swapped row pos is))
  rows_swapped (row ∷ rows) (suc i) pos is =
      let new = rows_with rows i pos (live (p.0, w) b) in
      rw (filter_map-append live_entry row (flattened rows), filter_map-append live_entry row (flattened new))
      (swapped_after _ _ (live_entries row) _ _ (rows_swapped rows i pos is))

  bucket_swapped : (s : BucketView K V) (block pos : ℕ) → slot_at (block_at s block) pos ≡ live p b
      → Swaps (entries_in s) (entries_in (with_slot_at s block pos (live (p.0, w) b)))
  bucket_swapped s zero pos is =
      let new = slice_set s.own pos (live (p.0, w) b) in
      rw (filter_map-append live_entry s.own (flattened s.chain), filter_map-append live_entry new (flattened s.chain))
      (swapped_before _ _ _ _ (live_entries (flattened s.chain)) (slots_swapped s.own pos is))
  bucket_swapped s (suc i) pos is =
      let new = rows_with s.chain i pos (live (p.0, w) b) in
      rw (filter_map-append live_entry s.own (flattened s.chain), filter_map-append live_entry s.own (flattened new))
      (swapped_after _ _ (live_entries s.own) _ _ (rows_swapped s.chain i pos is))

  among_swapped : (bs : List (BucketView K V)) (i : ℕ) (new : BucketView K V) → i < length bs
      → Swaps (entries_in (bucket_at bs i)) (entries_in new) → Swaps (entries_among bs) (entries_among (slice_set bs i new))
  among_swapped [] i new within s = absurd (omega arith)
  among_swapped (c ∷ bs) zero new within s = swapped_before _ _ _ _ (entries_among bs) s
  among_swapped (c ∷ bs) (suc i) new within s =
      swapped_after _ _ (entries_in c) _ _ (among_swapped bs i new (omega arith) s)

  entries_swapped : (a : ArraysView K V) (side : Side) (i : ℕ) (new : BucketView K V) → i < length (buckets_on a side)
      → Swaps (entries_in (bucket_on a side i)) (entries_in new) → Swaps (entries_of a) (entries_of (arrays_with a side i new))
  entries_swapped a Current i new within s =
      swapped_before _ _ _ _ (entries_among a.linked) (among_swapped a.current i new within s)
  entries_swapped a Old i new within s =
      swapped_after _ _ (entries_among a.current) _ _ (among_swapped a.linked i new within s)

module _ {K V : Type 0} (p : K × V) (w : V) where
  -- each bucket has as many pairs as it had
  pub buckets_swapped : (a : ArraysView K V) (side : Side) (i : ℕ) (at : Place)
      → live_pair (slot_in (bucket_on a side i) at) ≡ Some p
      → map (λ bucket. length (pairs_in bucket)) (row_of (arrays_with a side i (bucket_with_value (bucket_on a side i) at w)))
      ≡ map (λ bucket. length (pairs_in bucket)) (row_of a)
  buckets_swapped a side i at here =
      let s = bucket_on a side i in
      let is = live_is (slot_in s at) p here in
      let new : bucket_with_value s at w ≡ with_slot_at s at.block at.pos (live (p.0, w) is.0) =
      ap (λ slot. with_slot_at s at.block at.pos (slot_with_value slot w)) is.1 in
      let swapped = subst (λ t. IsSwapped (p, is.0) ((p.0, w), is.0) (entries_in s) (entries_in t)) (sym new)
      (bucket_swapped p w is.0 s at.block at.pos is.1) in
      lens_same a side i (bucket_with_value s at w)
      (sym (length-entries_in (bucket_with_value s at w))
      ∙ swapped_len _ _ (entries_in s) (entries_in (bucket_with_value s at w)) swapped ∙ length-entries_in s)

  pub pairs_swapped : (a : ArraysView K V) (side : Side) (i : ℕ) (at : Place) → i < length (buckets_on a side)
      → live_pair (slot_in (bucket_on a side i) at) ≡ Some p
      → IsSwapped p (p.0, w) (pairs_of a) (pairs_of (arrays_with a side i (bucket_with_value (bucket_on a side i) at w)))
  pairs_swapped a side i at within here =
      let s = bucket_on a side i in
      let is = live_is (slot_in s at) p here in
      let b = is.0 in
      let new : bucket_with_value s at w ≡ with_slot_at s at.block at.pos (live (p.0, w) b) =
      ap (λ slot. with_slot_at s at.block at.pos (slot_with_value slot w)) is.1 in
      swapped_map (λ entry. entry.0) _ _ _ _ (entries_swapped p w b a side i _ within
      (rw new (bucket_swapped p w b s at.block at.pos is.1)))

module _ {K V : Type 0} (eq : K → K → Bool) (laws : IsEquivalence eq) (matches : K → Bool) (alike : IsForm eq matches) (p : K × V) (w : V)
    (same : matches p.0 ≡ true) where
  -- a key before it doesn't match, since no two keys are equal
  apart_from : (own : K) (front rest : List (K × V)) → AllByRecursion (λ k. eq own k ≡ false) (keys_of (front ++ p ∷ rest))
      → eq own p.0 ≡ false
  apart_from own [] rest apart = apart.0
  apart_from own (x ∷ front) rest apart = apart_from own front rest apart.1

  pub set_in_place : (front rest : List (K × V)) → IsDistinct eq (keys_of (front ++ p ∷ rest))
      → set_value matches (front ++ p ∷ rest) w ≡ front ++ (p.0, w) ∷ rest
  set_in_place [] rest distinct = rw same refl
  set_in_place (x ∷ front) rest distinct =
      let apart = apart_from x.0 front rest (IsDistinct-head eq x.0 (keys_of (front ++ p ∷ rest)) distinct) in
      elim (cases_Bool (matches x.0)) [
        | inl wanted ↦ let equal : eq x.0 p.0 ≡ true = sym (alike x.0 p.0 wanted) ∙ same in absurd cc
        | inr other ↦ rw other
            (ap (λ l. x ∷ l) (set_in_place front rest (IsDistinct-tail eq x.0 (keys_of (front ++ p ∷ rest)) distinct)))
      ]

  same_len : {H : Type 0} (t : TableView K V H) (side : Side) (i : ℕ) (new : BucketView K V)
      → (32 * length (arrays_with t.arrays side i new).current ≡ 32 * length t.arrays.current)
      × (32 * length (arrays_with t.arrays side i new).linked ≡ 32 * length t.arrays.linked)
  same_len t Current i new = (ap (λ n. 32 * n) (length-set t.arrays.current i new), refl)
  same_len t Old i new = (refl, ap (λ n. 32 * n) (length-set t.arrays.linked i new))

  same_others : {H : Type 0} (t : TableView K V H) (side : Side) (i : ℕ) (new : BucketView K V)
      → ((arrays_with t.arrays side i new).minimum ≡ t.arrays.minimum) × ((arrays_with t.arrays side i new).maximum ≡ t.arrays.maximum)
  same_others t Current i new = (refl, refl)
  same_others t Old i new = (refl, refl)

  -- so the map is the same except for the value
  pub written_in_place : {H : Type 0} (t : TableView K V H) (side : Side) (i : ℕ) (at : Place) → i < length (buckets_on t.arrays side)
      → live_pair (slot_in (bucket_on t.arrays side i) at) ≡ Some p → IsDistinct eq (keys_of (pairs_of t.arrays))
      → map_of (with_value t side i at w) ≡ map_with_value matches (map_of t) w
  written_in_place t side i at within here distinct =
      let s = pairs_swapped p w t.arrays side i at within here in
      let set : set_value matches (pairs_of t.arrays) w ≡ s.front ++ (p.0, w) ∷ s.rest =
      ap (λ l. set_value matches l w) s.before ∙ set_in_place s.front s.rest (subst (λ l. IsDistinct eq (keys_of l)) s.before distinct) in
      let entries = s.after ∙ sym set in
      let lens = same_len t side i (bucket_with_value (bucket_on t.arrays side i) at w) in
      let buckets = buckets_swapped p w t.arrays side i at here in
      let others = same_others t side i (bucket_with_value (bucket_on t.arrays side i) at w) in
      λ j. record {
        entries = entries j;
        hasher = t.hasher;
        minimum = others.0 j;
        maximum = others.1 j;
        slots = lens.0 j;
        old_slots = lens.1 j;
        bucket_lens = buckets j;
      }

  -- and another value is under the key
  pub holds_in_place : {H : Type 0} (kind : ℕ) (t : TableView K V H) (side : Side) (i : ℕ) (at : Place)
      → i < length (buckets_on t.arrays side)
      → live_pair (slot_in (bucket_on t.arrays side i) at) ≡ Some p → IsDistinct eq (keys_of (pairs_of t.arrays))
      → ChangesValue (state_of kind t) p w (state_of kind (with_value t side i at w))
      → Holds eq matches (map_of t) p.1 w (map_with_value matches (map_of t) w)
  holds_in_place kind t side i at within here distinct changed =
      let s = with_value t side i at w in
      let after : IsDistinct eq (keys_of (pairs_of s.arrays)) =
      distinct_permuted eq laws ((p.0, w) ∷ changed.rest) (pairs_of s.arrays) changed.after.pairs
      (distinct_with eq laws p.0 p.1 w changed.rest (distinct_permuted eq laws (pairs_of t.arrays)
      (p ∷ changed.rest) changed.before distinct)) in
      subst (λ m. Holds eq matches (map_of t) p.1 w m) (written_in_place t side i at within here distinct)
      (p.0, replaces eq laws kind t s distinct after matches alike p w same changed)

-- the pair that a probe found is the one in its slot
pub found_is : {K V : Type 0} (matches : K → Bool) (pairs : List (K × V)) (found p : K × V) (slot : Option (K × V)) → slot ≡ Some found
    → slot ≡ Some p → IsThere matches pairs found → IsThere matches pairs p
found_is matches pairs found p slot is here there =
    let both : Some found ≡ Some p = sym is ∙ here in
    let same : found ≡ p = cc in
    subst (IsThere matches pairs) same there
