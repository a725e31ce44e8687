-- What a closure does that is called with keys, if each call keeps what is fixed from the start on.
use Rattle.std.proofs.Common.{◌≡◌, ◌∙◌, List, [], ◌∷◌, ap, refl, subst}
use Rattle.std.specs.Borrow.{Bor}
use Rattle.std.specs.Fn.{Called, Mut}
use Rattle.std.specs.List.{FoldsTo}
use Rattle.collections.specs.Keys.{CallsEachKey}

module _ {S F K A : Type 0} (calls : Mut S (Bor K × Unit {0}) (Unit {0})) (inside : S → F) (fixed : S → A)
    (R : F → K → F → Type 0) where
  -- what each call does, if what is fixed is as it was at a state
  abbrev Says : S → Type 0
  Says start = (s : S) (own : Bor K) (t : S) → fixed s ≡ fixed start → Called calls s (own, tt) tt t
      → (fixed t ≡ fixed s) × R (inside s) own.now (inside t)

  called_on : (start first : S) (keys : List K) (last : S) → CallsEachKey calls first keys last → Says start → fixed first ≡ fixed start
      → (fixed last ≡ fixed start) × FoldsTo R (inside first) keys (inside last)
  called_on start first [] last is says kept = (subst (λ s. fixed s ≡ fixed start) is kept, ap inside is)
  called_on start first (key ∷ keys) last went says kept =
      let between = went.0 in
      let one = says first went.1.shown between kept went.1.called in
      let rest = called_on start between keys last went.2 says (one.0 ∙ kept) in
      (rest.0, (inside between, subst (λ k. R (inside first) k (inside between)) went.1.shows one.1, rest.1))

  pub keys_called : (first : S) (keys : List K) (last : S) → CallsEachKey calls first keys last → Says first
      → (fixed last ≡ fixed first) × FoldsTo R (inside first) keys (inside last)
  keys_called first keys last went says = called_on first first keys last went says refl
