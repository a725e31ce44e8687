-- A pair is removed from a table, after its bucket was found.
use Rattle.bucket_table.proofs.Words.{All-permutation, Bool, Contains-permutation, IsAbsent, IsPermutation-sym, IsPermutation-trans}
use Rattle.bucket_table.proofs.Words.{IsThere, KeepsPairs, List, MapState, Slot, Some, TakesPair, ap, false, live_pair, same_Some, subst}
use Rattle.bucket_table.proofs.Words.{sym, true, ◌∙◌, ◌∷◌, ◌≡◌}

module _ {K V H : Type 0} where
  -- another order, and then one pair less
  pub then_taken : (a b d : MapState K V H) (p : K × V) → KeepsPairs a b → TakesPair b p d → TakesPair a p d
  then_taken a b d p keeps takes = record {
    pairs = IsPermutation-trans a.pairs b.pairs (p ∷ d.pairs) keeps.pairs takes.pairs;
    others = takes.others ∙ ap (λ (m : MapState K V H). record m { pairs = d.pairs }) keeps.others;
  }

module _ {K V : Type 0} (matches : K → Bool) where
  -- the pair that a search found is the one that was taken
  pub same_taken : (pairs : List (K × V)) (slot : Slot K V) (p q : K × V) → live_pair slot ≡ Some p → IsThere matches pairs p
      → live_pair slot ≡ Some q → matches q.0 ≡ true
  same_taken pairs slot p q found there taken = subst (λ (r : K × V). matches r.0 ≡ true) (same_Some p q (sym found ∙ taken)) there.1

  module _ {H : Type 0} (a b : MapState K V H) where
    -- if no key matches now, none did in another order
    pub absent_before : KeepsPairs a b → IsAbsent matches b.pairs → IsAbsent matches a.pairs
    absent_before keeps none = All-permutation (λ (p : K × V). matches p.0 ≡ false) b.pairs a.pairs
        (IsPermutation-sym a.pairs b.pairs keeps.pairs) none

    -- and the pair that a search found was present before, in another order
    pub there_before : (p : K × V) → KeepsPairs a b → IsThere matches b.pairs p → IsThere matches a.pairs p
    there_before p keeps (there, is) =
        (Contains-permutation b.pairs a.pairs p (IsPermutation-sym a.pairs b.pairs keeps.pairs) there, is)

    -- and it is the one that a slot shows
    pub shown_before : (slot : Slot K V) (p q : K × V) → KeepsPairs a b → live_pair slot ≡ Some p → IsThere matches b.pairs p
        → live_pair slot ≡ Some q → IsThere matches a.pairs q
    shown_before slot p q keeps found there shown =
        there_before q keeps (subst (λ (r : K × V). IsThere matches b.pairs r) (same_Some p q (sym found ∙ shown)) there)
