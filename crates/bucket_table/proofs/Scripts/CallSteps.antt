-- What a call of a script does to the map, after the calls of the table that it makes.
use Rattle.bucket_table.proofs.Words.{AddsPair, AreArrays, ArraysView, Bool, ChangesValue, Contains-permutation, Err, IfErr}
use Rattle.bucket_table.proofs.Words.{IsPermutation-cons, IsPermutation-refl, IsPermutation-sym, IsPermutation-trans, IsThere, IsTrue}
use Rattle.bucket_table.proofs.Words.{KeepsPairs, List, MapState, Result, ℕ, [], ap, arith, counted, counted_to, length, length_permutation}
use Rattle.bucket_table.proofs.Words.{min, pairs_of, refl, subst, sym, ◌-◌, ◌<◌, ◌^◌, ◌↔◌, ◌∙◌, ◌∷◌, ◌≡◌}
use Rattle.bucket_table.specs.declared.arrays.Missing.{Missing}
use Rattle.bucket_table.specs.declared.arrays.Missing.TheVariants.{Nothing}
use Rattle.bucket_table.specs.Map.Preparing.{IsMissing}
use Rattle.bucket_table.proofs.Walking.CursorSteps.{no_map}

module _ {K V H : Type 0} where
  -- nothing was done
  pub kept : (a : MapState K V H) → KeepsPairs a a
  kept a = record { pairs = IsPermutation-refl a.pairs; others = refl }

  pub others_after : (a b d : MapState K V H) → KeepsPairs a b → d ≡ record b { pairs = d.pairs } → d ≡ record a { pairs = d.pairs }
  others_after a b d keeps others = others ∙ ap (λ (m : MapState K V H). record m { pairs = d.pairs }) keeps.others

  -- another order, and then what the next call does
  pub then_kept : (a b d : MapState K V H) → KeepsPairs a b → KeepsPairs b d → KeepsPairs a d
  then_kept a b d keeps more = record {
    pairs = IsPermutation-trans a.pairs b.pairs d.pairs keeps.pairs more.pairs;
    others = others_after a
        b d keeps more.others;
  }

  pub then_added : (a b d : MapState K V H) (p : K × V) → KeepsPairs a b → AddsPair b p d → AddsPair a p d
  then_added a b d p keeps adds = record {
    pairs = IsPermutation-trans (p ∷ a.pairs) (p ∷ b.pairs) d.pairs (IsPermutation-cons p a.pairs b.pairs keeps.pairs) adds.pairs;
    others = others_after a b d keeps adds.others;
  }

  pub then_changed : (a b d : MapState K V H) (p : K × V) (value : V) → KeepsPairs a b → ChangesValue b p value d → ChangesValue a p value d
  then_changed a b d p value keeps changes = record {
    rest = changes.rest;
    before = IsPermutation-trans a.pairs b.pairs (p ∷ changes.rest) keeps.pairs changes.before;
    after = record { pairs = changes.after.pairs; others = others_after a b d keeps changes.after.others };
  }

  pub there_before : (matches : K → Bool) (a b : MapState K V H) (p : K × V) → KeepsPairs a b
      → IsThere matches b.pairs p → IsThere matches a.pairs p
  there_before matches a b p keeps there = (
    Contains-permutation b.pairs a.pairs p (IsPermutation-sym a.pairs b.pairs keeps.pairs) there.0,
    there.1,
  )

  pub counted_before : (n : ℕ) (a b : MapState K V H) → KeepsPairs a b → n ≡ counted_to b.pairs → n ≡ counted_to a.pairs
  counted_before n a b keeps counted = counted ∙ ap (λ m. min m (2 ^ 64 - 1)) (length_permutation a.pairs b.pairs keeps.pairs)

  -- if no pair is left, there was none in another order
  pub none_before : (a b : MapState K V H) → KeepsPairs a b → b.pairs ≡ [] → a.pairs ≡ []
  none_before a b keeps none = none_of a.pairs (sym (length_permutation a.pairs b.pairs keeps.pairs)
      ∙ ap (λ (ps : List (K × V)). length ps) none)
    where
      none_of : (ps : List (K × V)) → length ps ≡ 0 → ps ≡ []
      none_of [] e = refl
      none_of (p ∷ ps) e = absurd (omega arith)

  pub some_before : (truth : Bool) (a b : MapState K V H) → KeepsPairs a b
      → IsTrue truth ↔ (0 < length b.pairs) → IsTrue truth ↔ (0 < length a.pairs)
  some_before truth a b keeps has = subst (λ n. IsTrue truth ↔ (0 < n)) (length_permutation a.pairs b.pairs keeps.pairs) has

module _ {K V : Type 0} where
  -- without a current array there is no old one, and no pair
  pub empty_without : {A : Type 0} (old new : ArraysView K V) (r : Result A Missing) → IfErr r (λ missing. IsMissing missing old)
      → length new.current ≡ length old.current → AreArrays new → r ≡ Err Nothing → pairs_of new ≡ []
  empty_without {A} old new r answer same law is =
      no_map new law (same ∙ subst (λ (x : Result A Missing). IfErr x (λ missing. IsMissing missing old)) is answer)
