-- The pairs of a cache in LRU order are its pairs in another order.
use Rattle.bucket_table.proofs.Words.{ArraysView, BucketView, IsPermutation, IsPermutation-append_left, IsPermutation-cons}
use Rattle.bucket_table.proofs.Words.{IsPermutation-map, IsPermutation-refl, IsPermutation-trans, List, None, Slot, [], ap, arith}
use Rattle.bucket_table.proofs.Words.{cases_Bool, cases_eq, cases_lt, eq-eqb, false, false≢true, flattened, free, get_or, inl, inr}
use Rattle.bucket_table.proofs.Words.{is_listed, length, live_pair, live_pairs, map, not, pairs_in, pairs_of, refl, slot_at, subst, suc}
use Rattle.bucket_table.proofs.Words.{sym, true, zero, ℕ, ◌++◌, ◌+◌, ◌<◌, ◌==◌, ◌∙◌, ◌∷◌, ◌≡◌, ◌≢◌}
use Rattle.std.proofs.lemmas.Bool.{eqb-true, ne_eqb, or_right}
use Rattle.std.proofs.lemmas.List.{get_or_past}
use Rattle.std.proofs.lemmas.List.Elements.{filter_map-append}
use Rattle.std.proofs.lemmas.List.Folds.{list_any-append, list_any_at}
use Rattle.std.proofs.lemmas.List.FromFn.{fill_by_all, get_or-range_with_len, length-range_with_len}
use Rattle.std.proofs.lemmas.List.Sorted.{IsPermutation-append, IsPermutation-middle}
use Rattle.std.proofs.lemmas.Map.Views.{any-filter_same}
use Rattle.std.specs.List.{range_with_len}
use Rattle.bucket_slots.specs.ByUse.{each_once, pairs_by_use, slots_by_use}
use Rattle.bucket_slots.specs.Recency.{order_without}
use Rattle.bucket_slots.proofs.Recency.ByUse.{without_both}
use Rattle.bucket_slots.proofs.Recency.Orders.{eqb-same, is_listed-order_without, order_without-absent}
use Rattle.bucket_table.specs.Map.LookingUp.{pairs_in_all}
use Rattle.bucket_table.specs.Walking.ByUse.{all_by_use, arrays_by_use}
use Rattle.bucket_table.proofs.Map.LookUps.{pairs_are}
use Rattle.bucket_table.proofs.Walking.Filters.{IsPermutation-filter, IsPermutation-filter_map}

-- consecutive numbers occur once each

not_in_range : (slot from len : ℕ) → slot < from → is_listed (range_with_len from len) slot ≡ false
not_in_range slot from zero before = refl
not_in_range slot from (suc len) before =
    let apart : slot ≢ from = omega arith in
    rw (ne_eqb slot from apart) (not_in_range slot (from + 1) len (omega arith))

once_range : (from len : ℕ) → each_once (range_with_len from len) ≡ range_with_len from len
once_range from zero = refl
once_range from (suc len) =
    ap (λ (rest : List ℕ). from ∷ rest) (ap (λ (rest : List ℕ). order_without rest from) (once_range (from + 1) len)
    ∙ order_without-absent (range_with_len (from + 1) len) from (not_in_range from (from + 1) len (omega arith)))

in_range : (len slot : ℕ) → slot < len → is_listed (range_with_len 0 len) slot ≡ true
in_range len slot below =
    list_any_at _ (range_with_len 0 len) slot 0 (omega (arith, length-range_with_len 0 len))
    (eq-eqb slot (get_or (range_with_len 0 len) slot 0) (omega (arith, get_or-range_with_len 0 len slot 0 below)))

-- keeping each slot once keeps the same slots

pub other_listed : (order : List ℕ) (slot other : ℕ) → slot ≢ other → is_listed (order_without order other) slot ≡ is_listed order slot
other_listed order slot other apart =
    any-filter_same _ _ true (λ listed same. ap not (ne_eqb listed other (λ is. apart (eqb-true slot listed same ∙ is)))) order

once_lists : (slots : List ℕ) (slot : ℕ) → is_listed (each_once slots) slot ≡ is_listed slots slot
once_lists [] slot = refl
once_lists (first ∷ slots) slot = elim (cases_eq slot first) [
  | inl same ↦ rw (eq-eqb slot first same) refl
  | inr apart ↦ rw (ne_eqb slot first apart) (other_listed (each_once slots) slot first apart ∙ once_lists slots slot)
]

in_use : (len slot : ℕ) (listed : List ℕ) → slot < len → is_listed (slots_by_use len listed) slot ≡ true
in_use len slot listed below =
    once_lists (listed ++ range_with_len 0 len) slot ∙ list_any-append _ listed (range_with_len 0 len)
    ∙ or_right (is_listed listed slot) (is_listed (range_with_len 0 len) slot) (in_range len slot below)

-- a listed slot may be moved to the front

touched_again : (order : List ℕ) (slot : ℕ) → order_without (slot ∷ order_without order slot) slot ≡ order_without order slot
touched_again order slot =
    rw (eqb-same slot) (order_without-absent (order_without order slot) slot (is_listed-order_without order slot))

touched_both : (order : List ℕ) (slot other : ℕ) → slot ≢ other → IsPermutation order (slot ∷ order_without order slot)
    → IsPermutation (other ∷ order_without order other) (slot ∷ order_without (other ∷ order_without order other) slot)
touched_both order slot other apart first =
    let rest = order_without (order_without order other) slot in
    let is : order_without (slot ∷ order_without order slot) other ≡ slot ∷ rest =
    rw (ne_eqb slot other apart) (ap (λ (slots : List ℕ). slot ∷ slots) (without_both order slot other)) in
    let fewer : IsPermutation (order_without order other) (slot ∷ rest) = subst (IsPermutation (order_without order other)) is
    (IsPermutation-filter (λ listed. not (listed == other)) order (slot ∷ order_without order slot) first) in
    rw (ne_eqb other slot (λ same. apart (sym same)))
    (IsPermutation-trans _ _ _ (IsPermutation-cons other _ _ fewer) (IsPermutation-middle (other ∷ []) slot rest))

to_front : (slots : List ℕ) (slot : ℕ) → is_listed (each_once slots) slot ≡ true
    → IsPermutation (each_once slots) (slot ∷ order_without (each_once slots) slot)
to_front [] slot listed = absurd (false≢true listed)
to_front (first ∷ slots) slot listed =
    let others = each_once slots in
    elim (cases_eq slot first) [
      | inl same ↦ subst (λ (s : ℕ). IsPermutation (first ∷ order_without others first)
          (s ∷ order_without (first ∷ order_without others first) s)) (sym same)
          (subst (λ (rest : List ℕ). IsPermutation (first ∷ order_without others first) (first ∷ rest)) (sym (touched_again others first))
          (IsPermutation-refl (first ∷ order_without others first)))
      | inr apart ↦
          let later = rw (ne_eqb slot first apart) at listed in
          touched_both others slot first apart (to_front slots slot (sym (other_listed others slot first apart) ∙ later))
    ]

module _ {K V : Type 0} where
  module _ (own : List (Slot K V)) where
    -- the live pairs of some own slots
    abbrev pairs_at : List ℕ → List (K × V)
    pairs_at slots = live_pairs (map (slot_at own) slots)

    pairs_at-all : pairs_at (range_with_len 0 (length own)) ≡ live_pairs own
    pairs_at-all = ap live_pairs (sym (fill_by_all (slot_at own) own (length own) free refl (λ slot below. refl)))

    pairs_at-permutation : (slots others : List ℕ) → IsPermutation slots others → IsPermutation (pairs_at slots) (pairs_at others)
    pairs_at-permutation slots others moved = IsPermutation-filter_map live_pair _ _ (IsPermutation-map (slot_at own) slots others moved)

    -- a slot that isn't in the LRU order is past the end
    past_end : (listed : List ℕ) (slot : ℕ) → is_listed (slots_by_use (length own) listed) slot ≡ false
        → live_pair (slot_at own slot) ≡ None
    past_end listed slot absent = elim (cases_lt slot (length own)) [
      | inl below ↦ absurd (false≢true (sym absent ∙ in_use (length own) slot listed below))
      | inr past ↦ ap live_pair (get_or_past own slot free past)
    ]

    pub own_by_use : (listed : List ℕ) → IsPermutation (live_pairs own) (pairs_at (slots_by_use (length own) listed))
    own_by_use [] =
        subst (IsPermutation (live_pairs own)) (sym (ap pairs_at (once_range 0 (length own)) ∙ pairs_at-all))
        (IsPermutation-refl (live_pairs own))
    own_by_use (slot ∷ listed) =
        let rest = slots_by_use (length own) listed in
        elim (cases_Bool (is_listed rest slot)) [
          | inl there ↦ IsPermutation-trans _ _ _ (own_by_use listed)
              (pairs_at-permutation rest (slot ∷ order_without rest slot) (to_front (listed ++ range_with_len 0 (length own)) slot there))
          | inr absent ↦ rw (past_end listed slot absent)
              (subst (λ (slots : List ℕ). IsPermutation (live_pairs own) (pairs_at slots)) (sym (order_without-absent rest slot absent))
              (own_by_use listed))
        ]

  bucket_by_use : (bucket : BucketView K V) → IsPermutation (pairs_in bucket) (pairs_by_use bucket)
  bucket_by_use bucket =
      let slots = map (slot_at bucket.own) (slots_by_use (length bucket.own) bucket.listed) in
      rw (filter_map-append live_pair bucket.own (flattened bucket.chain), filter_map-append live_pair slots (flattened bucket.chain))
      (IsPermutation-append_left (live_pairs (flattened bucket.chain)) _ _ (own_by_use bucket.own bucket.listed))

  buckets_by_use : (buckets : List (BucketView K V)) → IsPermutation (pairs_in_all buckets) (all_by_use buckets)
  buckets_by_use [] = IsPermutation-refl []
  buckets_by_use (bucket ∷ buckets) = IsPermutation-append _ _ _ _ (bucket_by_use bucket) (buckets_by_use buckets)

  -- the pairs in LRU order are all pairs, each once
  pub each_by_use : (arrays : ArraysView K V) → IsPermutation (pairs_of arrays) (arrays_by_use arrays)
  each_by_use arrays =
      rw (pairs_are arrays) (IsPermutation-append _ _ _ _ (buckets_by_use arrays.current) (buckets_by_use arrays.linked))
