-- A map is swept by hashes: the pairs below a bound for which a test returns false are removed.
use Rattle.bucket_table.proofs.Words.{AllByRecursion, Bool, BucketView, HasNoneFrom, IsPermutation, IsPermutation-append_left}
use Rattle.bucket_table.proofs.Words.{IsPermutation-append_right, IsPermutation-refl, IsPermutation-trans, List, [], ap, append-nil}
use Rattle.bucket_table.proofs.Words.{append_assoc, arith, bound_of, cases_lt, false, filter, filter-append, inl, inr, le-leb, length}
use Rattle.bucket_table.proofs.Words.{length-append, length-map, length_permutation, map, min, nat_le, not, not_from_false, not_from_true}
use Rattle.bucket_table.proofs.Words.{pairs_in, recursion_from_All, refl, subst, sym, true, true≢false, ℕ, ◌++◌, ◌+◌, ◌-◌, ◌<◌, ◌^◌, ◌∙◌}
use Rattle.bucket_table.proofs.Words.{◌≡◌, ◌≤◌}
use Rattle.std.proofs.Common.{◌||◌}
use Rattle.std.proofs.lemmas.Bool.{lt-leb, or_from, or_left, or_right}
use Rattle.std.proofs.lemmas.List.Elements.{filter_passes}
use Rattle.std.proofs.lemmas.List.Sorted.{IsPermutation-filter_both}
use Rattle.bucket_table.specs.Walking.Retains.{IsSwept, IsSweptBelow, Retains}
use Rattle.bucket_table.proofs.Walking.Bounds.{HasNoneBetween, bounds, is_in, is_inside}
use Rattle.bucket_table.proofs.Walking.Each.{all_permuted, each, each_append, each_both, each_filter, each_front, each_implies, each_map}
use Rattle.bucket_table.proofs.Walking.Filters.{IsPermutation-filter, filter_all, filter_none}
use Rattle.bucket_table.proofs.Walking.Retaining.{pairs_moved}

module _ {K V : Type 0} (IsTest : (K × V → Bool) → Type 0) (hash : K → ℕ) where
  -- a sweep that isn't over: removed pairs have hashes below `high`, and the remaining pairs with a hash below `low` are kept
  pub record IsSweeping (old now : List (K × V)) (low high count : ℕ) : Type 0 where
    pub gone : List (K × V)
    pub parts : IsPermutation old (gone ++ now)
    pub counted : count ≡ min (length gone) (2 ^ 64 - 1)
    pub early : AllByRecursion (λ pair. hash pair.0 < high) gone
    pub refused : (test : K × V → Bool) → IsTest test → AllByRecursion (λ pair. test pair ≡ false) gone
    pub kept : (test : K × V → Bool) → IsTest test → AllByRecursion (λ pair. hash pair.0 < low → test pair ≡ true) now

  -- nothing is removed
  pub sweep_begins : (old : List (K × V)) → IsSweeping old old 0 0 0
  sweep_begins old = record {
    gone = [];
    parts = IsPermutation-refl old;
    counted = omega arith;
    early = tt;
    refused = λ test means. tt;
    kept = λ test means. each (λ pair less. absurd (omega (arith, less))) old;
  }

  -- the map is the same, and there is nothing up to the next bound
  pub sweep_moves : (old now next : List (K × V)) (low high upper count : ℕ)
      → IsPermutation now next → high ≤ upper → HasNoneBetween hash high low next
      → IsSweeping old now high high count → IsSweeping old next low upper count
  sweep_moves old now next low high upper count moved up none s = record {
    gone = s.gone;
    parts = IsPermutation-trans _ _ _ s.parts (IsPermutation-append_right s.gone _ _ moved);
    counted = s.counted;
    early = each_implies _ (λ pair less. omega (arith, less, up)) s.early;
    refused = s.refused;
    kept = λ test means. each_both _ (λ pair keeps never less. elim (cases_lt (hash pair.0) high) [
      | inl early ↦ keeps early
      | inr late ↦ absurd (never late less)
    ]) (all_permuted _ moved (s.kept test means)) none;
  }

  module _ (len index : ℕ) where
    -- a bucket is swept
    pub sweep_visits : (old now new : List (K × V)) (lent left : BucketView K V) (count taken more : ℕ)
        → IsSweeping old now (bound_of len index) (bound_of len (index + 1)) count
        → IsPermutation (filter (λ pair. is_inside len index (hash pair.0)) now) (pairs_in lent)
        → IsPermutation (pairs_in left ++ filter (λ pair. not (is_inside len index (hash pair.0)))
        now) new → Retains IsTest lent left taken → more ≡ min (count + taken) (2 ^ 64 - 1)
        → IsSweeping old new (bound_of len (index + 1)) (bound_of len (index + 1)) more
    sweep_visits old now new lent left count taken more s lent_is new_is r is =
        let first : (K × V) × ℕ → K × V = λ e. e.0 in
        let taken_pairs : List (K × V) = map first r.gone in
        let within : K × V → Bool = λ pair. is_inside len index (hash pair.0) in
        let outside : K × V → Bool = λ pair. not (is_inside len index (hash pair.0)) in
        let rest : List (K × V) = filter outside now in
        let split : IsPermutation (pairs_in lent) (taken_pairs ++ pairs_in left) = pairs_moved r.gone lent left r.parts in
        let lent_first : IsPermutation now (pairs_in lent ++ rest) =
        IsPermutation-trans _ _ _ (IsPermutation-filter_both within outside (λ pair. refl) now)
        (IsPermutation-append_left rest _ _ lent_is) in
        let parted : IsPermutation now (taken_pairs ++ (pairs_in left ++ rest)) = subst (IsPermutation now)
        (append_assoc taken_pairs (pairs_in left) rest)
        (IsPermutation-trans _ _ _ lent_first (IsPermutation-append_left rest _ _ split)) in
        let after = IsPermutation-trans _ _ _ parted (IsPermutation-append_right taken_pairs _ _ new_is) in
        let whole = subst (IsPermutation old) (sym (append_assoc s.gone taken_pairs new))
        (IsPermutation-trans _ _ _ s.parts (IsPermutation-append_right s.gone _ _ after)) in
        let homes_lent : AllByRecursion (λ pair. within pair ≡ true) (pairs_in lent) =
        all_permuted _ lent_is (recursion_from_All (λ pair. within pair ≡ true) _ (filter_passes within now)) in
        let homes_taken : AllByRecursion (λ pair. within pair ≡ true) taken_pairs =
        each_front _ taken_pairs (pairs_in left) (all_permuted _ split homes_lent) in
        let homes_rest = recursion_from_All (λ pair. outside pair ≡ true) _ (filter_passes outside now) in
        let taken_len = length-map r.gone first in
        let both_len = length-append s.gone taken_pairs in
        record {
          gone = s.gone ++ taken_pairs;
          parts = whole;
          counted = let a = s.counted in let b = r.counted in omega (arith, a, b, is, taken_len, both_len);
          early = each_append _ _ _ s.early (each_implies _ (λ pair e. (bounds _ _ (hash pair.0) e).1) homes_taken);
          refused = λ test means.
              each_append _ _ _ (s.refused test means) (each_map (λ pair. test pair ≡ false) first r.gone (r.refused test means));
          kept = λ test means.
              let kept_left : AllByRecursion (λ pair. hash pair.0 < bound_of len (index + 1) → test pair ≡ true) (pairs_in left) =
              each_implies _ (λ pair e less. e) (r.kept test means) in
              all_permuted _ new_is (each_append _ _ _ kept_left
              (each_both _ (λ pair keeps out less. elim (cases_lt (hash pair.0) (bound_of len index)) [
                | inl early ↦ keeps early
                | inr late ↦ absurd (true≢false (sym out ∙ not_from_true (within pair) (is_in _ _ (hash pair.0) late less)))
              ]) (each_filter _ outside _ (s.kept test means)) homes_rest));
        }

  -- a filter over the removed and the remaining pairs
  filtered : (p : K × V → Bool) (old gone now : List (K × V)) → IsPermutation old (gone ++ now)
      → AllByRecursion (λ pair. p pair ≡ false) gone → AllByRecursion (λ pair. p pair ≡ true) now → IsPermutation (filter p old) now
  filtered p old gone now parts none all =
      let e = filter-append p gone now ∙ (λ i. filter_none p gone none i ++ filter_all p now all i) in
      subst (IsPermutation (filter p old)) e (IsPermutation-filter p _ _ parts)

  -- past the last hash all is swept
  pub sweep_ends : (old now next : List (K × V)) (high count : ℕ)
      → IsSweeping old now high high count → IsPermutation now next → HasNoneFrom hash high next
      → (test : K × V → Bool) → IsTest test → IsSwept test old next count
  sweep_ends old now next high count s moved none test means =
      let all : AllByRecursion (λ pair. test pair ≡ true) next =
      each_both _ (λ pair keeps less. keeps less) (all_permuted _ moved (s.kept test means)) none in
      let refuses : K × V → Bool = λ pair. not (test pair) in
      let parts = IsPermutation-trans _ _ _ s.parts (IsPermutation-append_right s.gone _ _ moved) in
      let gone_all = filter_all refuses s.gone (each_implies _ (λ pair e. not_from_false (test pair) e) (s.refused test means)) in
      let next_none = filter_none refuses next (each_implies _ (λ pair e. not_from_true (test pair) e) all) in
      let out = filter-append refuses s.gone next ∙ (λ i. gone_all i ++ next_none i) ∙ append-nil s.gone in
      let same = subst (IsPermutation (filter refuses old)) out (IsPermutation-filter refuses _ _ parts) in
      record {
        kept = filtered test old s.gone next parts (s.refused test means) all;
        counted = s.counted ∙ ap (λ (n : ℕ). min n (2 ^ 64 - 1)) (length_permutation _ _ same);
      }

  -- and a sweep that fails has reached a bound
  pub sweep_stops : (old now next : List (K × V)) (high count : ℕ) → IsSweeping old now high high count → IsPermutation now next
      → (test : K × V → Bool) → IsTest test → IsSweptBelow hash high test old next
  sweep_stops old now next high count s moved test means =
      let p : K × V → Bool = λ pair. test pair || nat_le high (hash pair.0) in
      let all : AllByRecursion (λ pair. p pair ≡ true) next = each_implies _ (λ pair keeps. elim (cases_lt (hash pair.0) high) [
        | inl early ↦ or_left (test pair) (nat_le high (hash pair.0)) (keeps early)
        | inr late ↦ or_right (test pair) (nat_le high (hash pair.0)) (le-leb high (hash pair.0) late)
      ]) (all_permuted _ moved (s.kept test means)) in
      let none : AllByRecursion (λ pair. p pair ≡ false) s.gone = each_both _ (λ pair no less.
      or_from (test pair) (nat_le high (hash pair.0)) no (lt-leb high (hash pair.0) less)) (s.refused test means) s.early in
      filtered p old s.gone next (IsPermutation-trans _ _ _ s.parts (IsPermutation-append_right s.gone _ _ moved)) none all
