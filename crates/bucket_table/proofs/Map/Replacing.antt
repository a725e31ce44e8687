-- A pair replaces another one with an equal key.
use Rattle.bucket_table.proofs.Words.{All-cons, All-nil, All-permutation, AllByRecursion, ArraysView, Bool, BucketView, Current, IsDistinct}
use Rattle.bucket_table.proofs.Words.{IsDistinct-tail, IsEntryHome, IsEquivalence, IsHome, IsOneMap, IsPermutation}
use Rattle.bucket_table.proofs.Words.{IsPermutation-append_left, IsPermutation-cons, IsPermutation-map, IsPermutation-trans, KeepsPairs}
use Rattle.bucket_table.proofs.Words.{List, MapState, Old, Place, Side, Some, ℕ, [], ap, arith, arrays_with, bucket_on, buckets_on}
use Rattle.bucket_table.proofs.Words.{empty_bucket, entries_in, false, length, live_pair, map, map-entries_in, pairs_in, pairs_of, refl}
use Rattle.bucket_table.proofs.Words.{rotated, slot_in, subst, sym, true, ◌%◌, ◌++◌, ◌<◌, ◌∙◌, ◌∷◌, ◌≡◌}
use Rattle.std.proofs.lemmas.Map.Keys.{IsDistinct-cons, IsDistinct-head}
use Rattle.bucket_slots.proofs.Replacing.{replaced}
use Rattle.bucket_slots.specs.Replacing.{slots_replaced}
use Rattle.bucket_table.specs.Map.MapState.{state_of}
use Rattle.bucket_table.specs.Map.Putting.{ReplacesPair}
use Rattle.bucket_table.proofs.Map.MapSteps.{distinct_kept, splits}
use Rattle.bucket_table.proofs.Scripts.CallSteps.{others_after}
use Rattle.bucket_table.proofs.Views.SideChanges.{changeable_holding, homes_moved, homes_on, placed_after}

module _ {K : Type 0} (eq : K → K → Bool) (laws : IsEquivalence eq) (k other : K) (same : eq k other ≡ true) where
  apart_alike : (ks : List K) → AllByRecursion (λ y. eq k y ≡ false) ks → AllByRecursion (λ y. eq other y ≡ false) ks
  apart_alike [] apart = apart
  apart_alike (y ∷ ks) apart = (sym (laws.congr k other y same) ∙ apart.0, apart_alike ks apart.1)

  -- distinct keys stay distinct if one is replaced by an equal key
  distinct_alike : (ks : List K) → IsDistinct eq (k ∷ ks) → IsDistinct eq (other ∷ ks)
  distinct_alike ks distinct =
      IsDistinct-cons eq other ks (apart_alike ks (IsDistinct-head eq k ks distinct)) (IsDistinct-tail eq k ks distinct)

module _ {K V H : Type 0} where
  -- another order, and then one pair is replaced by another
  pub then_replaced : (a b d : MapState K V H) (p q : K × V) → KeepsPairs a b → ReplacesPair b p q d → ReplacesPair a p q d
  then_replaced a b d p q keeps replaces = record {
    rest = replaces.rest;
    before = IsPermutation-trans a.pairs b.pairs (p ∷ replaces.rest) keeps.pairs replaces.before;
    after = record { pairs = replaces.after.pairs; others = others_after a b d keeps replaces.after.others };
  }

module _ {K V H : Type 0} {eq : K → K → Bool} (laws : IsEquivalence eq) (hash : H → K → ℕ) (kind : ℕ) {hasher : H} {a : ArraysView K V}
    (side : Side) (i : ℕ) (one : IsOneMap eq (hash hasher) a) (within : i < length (buckets_on a side)) (at : Place) (p q : K × V) (h : ℕ)
    (here : live_pair (slot_in (bucket_on a side i) at) ≡ Some p) (own : h ≡ hash hasher q.0)
    (alike : hash hasher p.0 ≡ hash hasher q.0) (same : eq p.0 q.0 ≡ true) where
  abbrev was : BucketView K V
  was = bucket_on a side i

  abbrev left : BucketView K V
  left = slots_replaced was at q (h % 256)

  abbrev new : ArraysView K V
  new = arrays_with a side i left

  abbrev state : ArraysView K V → MapState K V H
  state b = state_of kind (record { hasher = hasher; arrays = b })

  state_is : (to : Side) → state (arrays_with a to i left) ≡ record (state a) { pairs = pairs_of (arrays_with a to i left) }
  state_is Old = refl
  state_is Current = refl

  pub record IsReplacing : Type 0 where
    pub one_map : IsOneMap eq (hash hasher) new
    pub map : ReplacesPair (state a) p q (state new)

  pub replacing : IsReplacing
  replacing =
      let r = replaced was at p q (h % 256) here in
      let pair : (K × V) × ℕ → K × V = λ e. e.0 in
      let e : (K × V) × ℕ = (p, r.byte) in
      let f : (K × V) × ℕ = (q, h % 256) in
      let P : (K × V) × ℕ → Type 0 = IsEntryHome (hash hasher) (length (buckets_on a side)) i in
      let homes = homes_on (hash hasher) a side i one.placed within in
      let moved : IsPermutation (f ∷ entries_in was) (e ∷ entries_in left) =
      IsPermutation-trans _ _ _ (IsPermutation-cons f _ _ r.before_is) (IsPermutation-trans _ _ _ (rotated (f ∷ []) (e ∷ []) r.rest)
      (IsPermutation-cons e _ _ r.after_is)) in
      let first : P e = All-permutation P (entries_in was) (e ∷ r.rest) r.before_is homes 0 e (omega arith) in
      let home : P f = record {
        home = subst (λ n. IsHome (length (buckets_on a side)) n i) alike first.home;
        own_byte = ap (λ n. n % 256) own;
      } in
      let apart = splits a side i left within in
      let others = pairs_of (arrays_with a side i empty_bucket) in
      let rest : List (K × V) = map pair r.rest ++ others in
      let before : IsPermutation (pairs_of a) (p ∷ rest) =
      IsPermutation-trans _ _ _ apart.before (IsPermutation-append_left others (pairs_in was) (p ∷ map pair r.rest)
      (rw (← map-entries_in was) (IsPermutation-map pair (entries_in was) (e ∷ r.rest) r.before_is))) in
      let after : IsPermutation (q ∷ rest) (pairs_of new) =
      IsPermutation-trans _ _ _ (IsPermutation-append_left others (q ∷ map pair r.rest) (pairs_in left)
      (rw (← map-entries_in left) (IsPermutation-map pair (f ∷ r.rest) (entries_in left) r.after_is))) apart.after in
      let keys = distinct_alike eq laws p.0 q.0 same (map (λ (x : K × V). x.0) rest)
      (distinct_kept eq laws (pairs_of a) (p ∷ rest) one.distinct before) in
      record {
        one_map = record {
          distinct = distinct_kept eq laws (q ∷ rest) (pairs_of new) keys after;
          placed = placed_after (hash hasher) a side i left one.placed
              (changeable_holding (hash hasher) a side i at p one.placed within here)
              (homes_moved (hash hasher) (length (buckets_on a side)) i (f ∷ []) (e ∷ []) was left moved homes
              (All-cons P f [] home (All-nil P))) r.alive;
        };
        map = record { rest = rest; before = before; after = record { pairs = after; others = state_is side } };
      }
