-- A pair was added, and its value lent: what is written through the loan is the value under the key.
use Rattle.std.proofs.Common.{ℕ, suc, ◌≡◌, ◌<◌, ◌*◌, length, Bool, false, not, Err, Ok, OnOk, Result, Some, None, List, [], ◌∷◌, refl, sym}
use Rattle.std.proofs.Common.{ap}
use Rattle.std.proofs.Common.{subst, ◌∙◌, arith}
use Rattle.std.specs.Cmp.{IsEquivalence}
use Rattle.std.specs.List.{All, IsDistinct, filter}
use Rattle.std.specs.List.Sorted.{IsPermutation}
use Rattle.std.specs.Map.{keys_of, lookup}
use Rattle.std.proofs.lemmas.List.Sorted.{All-permutation, IsPermutation-cons, IsPermutation-refl, IsPermutation-sym, IsPermutation-trans}
use Rattle.std.proofs.lemmas.Map.{lookup-none}
use Rattle.std.proofs.lemmas.Map.Entries.{none_past_head}
use Rattle.bucket_slots.specs.BucketView.{BucketView, Place, bucket_with_value}
use Rattle.bucket_slots.specs.Clearing.{slots_after_insertion}
use Rattle.bucket_slots.specs.Slots.{Slot, live, live_pair}
use Rattle.bucket_table.specs.Views.ArraysView.{ArePlaced, TableView, pairs_of}
use Rattle.bucket_table.specs.Views.Sides.{bucket_on, with_bucket}
use Rattle.bucket_table.specs.declared.arrays.side.Side.{Side}
use Rattle.bucket_table.specs.declared.hash_table.ResizeRule.TheVariants.{Counted}
use Rattle.bucket_slots.specs.Digested.{HasNoSlot}
use Rattle.bucket_table.specs.Map.Finding.{Finds, FindsBucket}
use Rattle.bucket_table.specs.Map.Lending.{with_value}
use Rattle.bucket_table.specs.Map.LookingUp.{IsAbsent}
use Rattle.bucket_table.specs.Map.MapState.{AddsPair, ChangesValue, KeepsPairs, MapState, state_of}
use Rattle.bucket_table.proofs.CallerLemmas.{IsPermutation-filter}
use Rattle.collections.specs.Changes.{Adds, Stays}
use Rattle.collections.specs.Maps.{get, map_of}
use Rattle.collections.proofs.Lookups.{absent_from_lookup, distinct_permuted, distinct_with}
use Rattle.collections.specs.Slots.{GrowsSlots}
use Rattle.collections.proofs.Slots.{added_grows, as_long_with, grows_as, kept_grows}
use Rattle.collections.proofs.Steps.{adds, stays}

module _ {K V : Type 0} (eq : K → K → Bool) (laws : IsEquivalence eq) where
  abbrev others : K → List (K × V) → List (K × V)
  others k ps = filter (λ (o : K × V). not (eq k o.0)) ps

  all_others : (k : K) (ps : List (K × V)) → All (λ (o : K × V). eq k o.0 ≡ false) ps → others k ps ≡ ps
  all_others k [] none = refl
  all_others k (p ∷ ps) none =
      let rest = all_others k ps (λ i d below. none (suc i) d (omega arith)) in
      rw (none 0 p (omega arith), rest) refl

  not_first : (p : K × V) (ps : List (K × V)) → IsDistinct eq (keys_of (p ∷ ps)) → others p.0 (p ∷ ps) ≡ ps
  not_first p ps distinct =
      let none = absent_from_lookup eq laws p.0 ps (lookup-none (eq p.0) ps (none_past_head laws p.0 p ps distinct (laws.refl p.0))) in
      rw (laws.refl p.0, all_others p.0 ps none) refl

  -- if two lists are equal up to order, removing one pair leaves lists that are too
  pub permuted_rest : (p : K × V) (xs ys : List (K × V)) → IsDistinct eq (keys_of (p ∷ xs)) → IsPermutation (p ∷ xs) (p ∷ ys)
      → IsPermutation xs ys
  permuted_rest p xs ys distinct moved =
      let less = IsPermutation-filter (λ (o : K × V). not (eq p.0 o.0)) (p ∷ xs) (p ∷ ys) moved in
      rw (not_first p xs distinct, not_first p ys (distinct_permuted eq laws (p ∷ xs) (p ∷ ys) moved distinct)) at less

  -- what a look-up doesn't find is absent in another order too
  pub absent_permuted : (k : K) (xs ys : List (K × V)) → lookup (eq k) xs ≡ None → IsPermutation xs ys → IsAbsent (λ own. eq own k) ys
  absent_permuted k xs ys none moved = λ i d below.
      laws.symm _ k ∙ All-permutation (λ (o : K × V). eq k o.0 ≡ false) xs ys moved (absent_from_lookup eq laws k xs none) i d below

-- what a look-up doesn't find is also absent after a bucket was found for it
pub found_absent : {K V H E : Type 0} (eq : K → K → Bool) (laws : IsEquivalence eq) (key : K) (hash : ℕ) (old new : TableView K V H)
    (answer : Result (Side × ℕ) E) → lookup (eq key) (pairs_of old.arrays) ≡ None → Finds Counted 83 hash old answer new
    → OnOk answer (IsAbsent (λ own. eq own key) (pairs_of new.arrays))
found_absent eq laws key hash old new (Ok found) none finds =
    absent_permuted eq laws key (pairs_of old.arrays) (pairs_of new.arrays) none finds.map.pairs
found_absent eq laws key hash old new (Err refused) none finds = tt

-- and the hasher stays, whether or not a bucket was found
pub found_hasher : {K V H E : Type 0} (hash : ℕ) (old new : TableView K V H) (answer : Result (Side × ℕ) E)
    → Finds Counted 83 hash old answer new → old.hasher ≡ new.hasher
found_hasher hash old new (Ok found) finds = sym (ap (λ others. others.hasher) finds.map.others)
found_hasher hash old new (Err refused) finds = sym (ap (λ others. others.hasher) finds.prepared.map.others)

-- a bucket without a free slot, under other names
pub full_there : {K V H : Type 0} (keeps : ℕ → Bool) (t s : TableView K V H) (side to : Side) (index at : ℕ)
    → t ≡ s → side ≡ to → index ≡ at
    → HasNoSlot 83 keeps (bucket_on t.arrays side index) → HasNoSlot 83 keeps (bucket_on s.arrays to at)
full_there {K} {V} {H} keeps t s side to index at same here there none =
    subst (λ (u : TableView K V H). HasNoSlot 83 keeps (bucket_on u.arrays to at)) same
    (subst (λ (k : Side). HasNoSlot 83 keeps (bucket_on t.arrays k at)) here
    (subst (λ (i : ℕ). HasNoSlot 83 keeps (bucket_on t.arrays side i)) there none))

-- a bucket that was changed, under other names
pub changed_there : {K V H : Type 0} (added t s : TableView K V H) (side to : Side) (index at : ℕ)
    (change : BucketView K V → BucketView K V)
    → t ≡ s → side ≡ to → index ≡ at → added ≡ with_bucket t side index (change (bucket_on t.arrays side index))
    → added ≡ with_bucket s to at (change (bucket_on s.arrays to at))
changed_there {K} {V} {H} added t s side to index at change same here there is =
    subst (λ (u : TableView K V H). added ≡ with_bucket u to at (change (bucket_on u.arrays to at))) same
    (subst (λ (k : Side). added ≡ with_bucket t k at (change (bucket_on t.arrays k at))) here
    (subst (λ (i : ℕ). added ≡ with_bucket t side i (change (bucket_on t.arrays side i))) there is))

-- the pair of a live slot
pub pair_named : {K V : Type 0} (slot : Slot K V) (p q : K × V) (byte : ℕ) → slot ≡ live p byte → live_pair slot ≡ Some q → q ≡ p
pair_named slot p q byte named found =
    let own : live_pair slot ≡ Some p = ap live_pair named in
    let same : Some q ≡ Some p = sym found ∙ own in
    cc

module _ {K V H : Type 0} (eq : K → K → Bool) (laws : IsEquivalence eq) (kind : ℕ) (t : TableView K V H)
    (distinct : IsDistinct eq (keys_of (pairs_of t.arrays))) where
  -- a change that moves pairs and adds none
  pub kept_stays : (s : TableView K V H) → KeepsPairs (state_of kind t) (state_of kind s) → Stays eq (map_of t) (map_of s)
  kept_stays s keeps =
      stays eq laws kind t s distinct (distinct_permuted eq laws (pairs_of t.arrays) (pairs_of s.arrays) keeps.pairs distinct) keeps

  -- the pairs move, one is added, and then its value changes
  pub added_lent : (between added s : TableView K V H) (k : K) (v w : V) → get eq (map_of t) k ≡ None
      → KeepsPairs (state_of kind t) (state_of kind between) → AddsPair (state_of kind between) (k, v) (state_of kind added)
      → IsDistinct eq (keys_of (pairs_of added.arrays)) → ChangesValue (state_of kind added) (k, v) w (state_of kind s)
      → Adds eq (map_of t) k w (map_of s)
  added_lent between added s k v w none keeps puts one_more changed =
      let xs = pairs_of t.arrays in
      let ys = pairs_of between.arrays in
      let zs = pairs_of added.arrays in
      let first = distinct_permuted eq laws zs ((k, v) ∷ changed.rest) changed.before one_more in
      let whole = distinct_permuted eq laws zs ((k, v) ∷ ys) (IsPermutation-sym ((k, v) ∷ ys) zs puts.pairs) one_more in
      let rest = permuted_rest eq laws (k, v) ys changed.rest whole
      (IsPermutation-trans ((k, v) ∷ ys) zs ((k, v) ∷ changed.rest) puts.pairs changed.before) in
      let after = distinct_permuted eq laws ((k, w) ∷ changed.rest) (pairs_of s.arrays) changed.after.pairs
      (distinct_with eq laws k v w changed.rest first) in
      let moved = IsPermutation-trans xs ys changed.rest keeps.pairs rest in
      adds eq laws kind t s distinct after k w (absent_permuted eq laws k xs xs none (IsPermutation-refl xs))
      (record {
        pairs = IsPermutation-trans ((k, w) ∷ xs) ((k, w) ∷ changed.rest) (pairs_of s.arrays)
            (IsPermutation-cons (k, w) xs changed.rest moved) changed.after.pairs;
        others = changed.after.others ∙ ap (λ (z : MapState K V H). record z { pairs = pairs_of s.arrays })
            (puts.others ∙ ap (λ (z : MapState K V H). record z { pairs = zs }) keeps.others);
      })

-- a pair was put into the bucket that was found, and then its value was written
pub added_lent_grows : {K V H : Type 0} (hash_of : H → K → ℕ) (key : K) (t between added : TableView K V H)
    → ArePlaced (hash_of added.hasher) added.arrays → (0 < length added.arrays.linked → 0 < length added.arrays.current)
    → (keeps : ℕ → Bool) (v w : V) (side : Side) (index byte hash : ℕ) (at : Place) → hash ≡ hash_of t.hasher key
    → FindsBucket Counted 83 hash t side index between → AddsPair (state_of 83 between) (key, v) (state_of 83 added)
    → added ≡ with_bucket between side index (slots_after_insertion 83 keeps (bucket_on between.arrays side index) (key, v) byte)
    → GrowsSlots hash_of key (map_of t) (map_of (with_value added side index at w))
added_lent_grows {K} {V} {H} hash_of key t between added placed beside keeps v w side index byte hash at own finds puts is =
    let same = sym (ap (λ z. z.hasher) puts.others ∙ ap (λ z. z.hasher) finds.map.others) in
    let pairs = IsPermutation-trans _ _ _ (IsPermutation-cons (key, v) (pairs_of t.arrays) (pairs_of between.arrays) finds.map.pairs)
    puts.pairs in
    let there = subst (λ (h : ℕ). FindsBucket Counted 83 h t side index between) own finds in
    let grows = added_grows hash_of key t added placed beside 83 keeps v between side index byte there same pairs is in
    let long = as_long_with added.arrays side index (bucket_with_value (bucket_on added.arrays side index) at w) in
    grows_as hash_of key (map_of t) (map_of added) (map_of (with_value added side index at w))
    (ap (λ (n : ℕ). 32 * n) long.current) (ap (λ (n : ℕ). 32 * n) long.linked) grows

-- the bucket that was found has no free slot
pub full_grows : {K V H : Type 0} (hash_of : H → K → ℕ) (key : K) (t s : TableView K V H) → ArePlaced (hash_of s.hasher) s.arrays
    → (0 < length s.arrays.linked → 0 < length s.arrays.current) → (side : Side) (index hash : ℕ) → hash ≡ hash_of t.hasher key
    → FindsBucket Counted 83 hash t side index s → GrowsSlots hash_of key (map_of t) (map_of s)
full_grows {K} {V} {H} hash_of key t s placed beside side index hash own finds =
    kept_grows hash_of key t s placed beside 83 (Ok (side, index)) s
    (subst (λ (h : ℕ). FindsBucket Counted 83 h t side index s) own finds) finds.map refl
