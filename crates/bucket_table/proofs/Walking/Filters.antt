-- Filters of lists up to order.
use Rattle.bucket_table.proofs.Words.{AllByRecursion, Bool, IsPermutation, IsPermutation-append_left, IsPermutation-cons}
use Rattle.bucket_table.proofs.Words.{IsPermutation-refl, IsPermutation-sym, IsPermutation-trans, List, None, Option, Some, [], ap, arith}
use Rattle.bucket_table.proofs.Words.{cond, false, filter, get_or, length, refl, set, subst, suc, sym, true, zero, ℕ, ◌&&◌, ◌<◌, ◌∙◌, ◌∷◌}
use Rattle.bucket_table.proofs.Words.{◌≡◌}
use Rattle.std.proofs.lemmas.List.Edits.{swap_is}
use Rattle.std.proofs.lemmas.List.Sorted.{IsPermutation-append_comm, IsPermutation-keeps}
use Rattle.std.specs.List.{cons_option, filter_map, swap}

module _ {B : Type 0} where
  exchange : (o q : Option B) (us : List B) → IsPermutation (cons_option o (cons_option q us)) (cons_option q (cons_option o us))
  exchange (Some x) (Some y) us = IsPermutation-append_left us (x ∷ y ∷ []) (y ∷ x ∷ []) (IsPermutation-append_comm (x ∷ []) (y ∷ []))
  exchange (Some x) None us = IsPermutation-refl (x ∷ us)
  exchange None q us = IsPermutation-refl (cons_option q us)

  under_option : (o : Option B) (us vs : List B) → IsPermutation us vs → IsPermutation (cons_option o us) (cons_option o vs)
  under_option (Some x) us vs h = IsPermutation-cons x us vs h
  under_option None us vs h = h

module _ {A B : Type 0} (p : A → Option B) where
  -- what y gives for the element at i, and what that element gives first for y
  moved : (l : List A) (i : ℕ) (y d : A) → i < length l
      → IsPermutation (cons_option (p (get_or l i d)) (filter_map p (set l i y))) (cons_option (p y) (filter_map p l))
  moved [] i y d h = absurd (omega arith)
  moved (z ∷ l) zero y d h = exchange (p z) (p y) (filter_map p l)
  moved (z ∷ l) (suc i) y d h =
      let g = get_or l i d in
      let first = exchange (p g) (p z) (filter_map p (set l i y)) in
      let inside = under_option (p z) _ _ (moved l i y d (omega arith)) in
      let last = exchange (p z) (p y) (filter_map p l) in
      IsPermutation-trans _ _ _ first (IsPermutation-trans _ _ _ inside last)

  swapped : (l : List A) (i j : ℕ) → i < length l → j < length l → IsPermutation (filter_map p l) (filter_map p (swap l i j))
  swapped [] i j below less = absurd (omega arith)
  swapped (z ∷ l) zero zero below less = IsPermutation-refl _
  swapped (z ∷ l) zero (suc j) below less = IsPermutation-sym _ _ (moved l j z z (omega arith))
  swapped (z ∷ l) (suc i) zero below less = IsPermutation-sym _ _ (moved l i z z (omega arith))
  swapped (z ∷ l) (suc i) (suc j) below less =
      let same = swap_is l i j z (omega arith) (omega arith) in
      subst (λ (t : List A). IsPermutation (filter_map p (z ∷ l)) (cons_option (p z) (filter_map p t)))
      (sym same) (under_option (p z) _ _ (swapped l i j (omega arith) (omega arith)))

  -- what a function gives for a list in another order is the same in another order
  pub IsPermutation-filter_map : (xs ys : List A) → IsPermutation xs ys → IsPermutation (filter_map p xs) (filter_map p ys)
  IsPermutation-filter_map xs ys h = IsPermutation-keeps xs (λ (l : List A). IsPermutation (filter_map p xs) (filter_map p l))
      (IsPermutation-refl (filter_map p xs)) (λ l i j below less so_far. IsPermutation-trans _ _ _
      so_far (swapped l i j below less)) ys h

module _ {A : Type 0} where
  as_option : (b : Bool) (x : A) (us : List A) → cond b (x ∷ us) us ≡ cons_option (cond b (Some x) None) us
  as_option true x us = refl
  as_option false x us = refl

  module _ (p : A → Bool) where
    as_filter_map : (xs : List A) → filter p xs ≡ filter_map (λ x. cond (p x) (Some x) None) xs
    as_filter_map [] = refl
    as_filter_map (x ∷ xs) =
        ap (λ (us : List A). cond (p x) (x ∷ us) us) (as_filter_map xs) ∙ as_option (p x) x (filter_map (λ y. cond (p y) (Some y) None) xs)

    pub IsPermutation-filter : (xs ys : List A) → IsPermutation xs ys → IsPermutation (filter p xs) (filter p ys)
    IsPermutation-filter xs ys h =
        rw (as_filter_map xs, as_filter_map ys) (IsPermutation-filter_map (λ (x : A). cond (p x) (Some x) None) xs ys h)

    pub filter_all : (xs : List A) → AllByRecursion (λ x. p x ≡ true) xs → filter p xs ≡ xs
    filter_all [] h = refl
    filter_all (x ∷ xs) h = rw (h.0, filter_all xs h.1) refl

    pub filter_none : (xs : List A) → AllByRecursion (λ x. p x ≡ false) xs → filter p xs ≡ []
    filter_none [] h = refl
    filter_none (x ∷ xs) h = rw (h.0, filter_none xs h.1) refl

    module _ (q : A → Bool) where
      both : (b : Bool) (x : A) (us : List A) → filter q (cond b (x ∷ us) us) ≡ cond (b && q x) (x ∷ filter q us) (filter q us)
      both true x us = refl
      both false x us = refl

      pub filter_filter : (xs : List A) → filter q (filter p xs) ≡ filter (λ x. p x && q x) xs
      filter_filter [] = refl
      filter_filter (x ∷ xs) = both (p x) x (filter p xs) ∙ ap (λ (us : List A). cond (p x && q x) (x ∷ us) us) (filter_filter xs)
