-- Testing each pair of a map is testing each key.
use Rattle.std.proofs.Common.{ℕ, suc, ◌≡◌, ◌<◌, ◌&&◌, ◌∙◌, Bool, Some, List, [], ◌∷◌, length, slice_index_or, refl, sym, ap}
use Rattle.std.proofs.Common.{arith}
use Rattle.std.specs.Cmp.{IsEquivalence}
use Rattle.std.specs.List.{list_all}
use Rattle.std.specs.Option.{option_eq}
use Rattle.std.proofs.lemmas.List.{get_or_default}
use Rattle.std.proofs.lemmas.List.Folds.{list_all-map}
use Rattle.collections.specs.Equality.{agree_at, is_within}
use Rattle.collections.specs.Maps.{IsUnique, MapView, get}
use Rattle.collections.proofs.Lookups.{lookup_there}

-- two tests with the same result at each place
same_all : {X : Type 0} (f g : X → Bool) (xs : List X)
    → ((k : ℕ) (d : X) → k < length xs → f (slice_index_or xs k d) ≡ g (slice_index_or xs k d))
    → list_all f xs ≡ list_all g xs
same_all f g [] each = refl
same_all f g (x ∷ xs) each =
    let head = each 0 x (omega arith) in
    let tail = same_all f g xs (λ k d below. each (suc k) d (omega arith)) in
    λ i. head i && tail i

module _ {K V H : Type 0} (eq : K → K → Bool) (laws : IsEquivalence eq) (same : V → V → Bool) where
  -- testing each pair is testing each key
  pub asked_of_pairs : (m n : MapView K V H) → IsUnique eq m
      → list_all (λ pair. option_eq same (Some pair.1) (get eq n pair.0)) m.entries ≡ is_within eq same m n
  asked_of_pairs m n unique = same_all _ _ m.entries (λ k d below.
      let pair = slice_index_or m.entries k d in
      let there = lookup_there eq laws pair.0 m.entries pair unique (k, below, get_or_default m.entries k pair d below)
      (laws.refl pair.0) in
      ap (λ o. option_eq same o (get eq n pair.0)) (sym there)) ∙ sym (list_all-map (agree_at eq same m n) (λ pair. pair.0) m.entries)
