-- A fold over the items of a list, each in another form.
use Rattle.std.proofs.Common.{◌≡◌, List, [], ◌∷◌, map}
use Rattle.std.specs.List.{FoldsTo}

-- a fold over a list's items, each in another form, is one over the list of these
pub folds-map : {S A B : Type 0} (step : S → B → S) (form : A → B) (first : S) (items : List A) (last : S)
    → FoldsTo (λ before item after. after ≡ step before (form item)) first items last
    → FoldsTo (λ before item after. after ≡ step before item) first (map form items) last
folds-map step form first [] last is = is
folds-map step form first (item ∷ items) last went = (went.0, went.1, folds-map step form went.0 items last went.2)
