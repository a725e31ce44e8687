-- What a function picks that returns the result of a test, and leaves each item: the first that passes, or none.
use Rattle.std.proofs.Common.{Bool, IsTrue, List, None, Option, Some, [], ap, false, nat_lt, refl, rules, sym, true, ℕ}
use Rattle.std.proofs.Common.{◌++◌, ◌<◌, ◌∙◌, ◌∷◌, ◌≡◌}
use Rattle.std.proofs.lemmas.List.Elements.{All-cons, All-nil}
use Rattle.std.specs.Bool.{MatchBool}
use Rattle.std.specs.List.{All}
use Rattle.std.specs.List.Retain.{ExtractsNext}

module _ {S X : Type 0} (asks : S → X → Bool → S → X → Type 0) (test : X → Bool)
    (says : (s : S) (x : X) (answer : Bool) (t : S) (y : X) → asks s x answer t y → (answer ≡ test x) × (y ≡ x))
  where
    abbrev pub IsPickedBy : List X → Option X → List X → List X → Type 0
    IsPickedBy left None kept still = All (λ x. test x ≡ false) left × (kept ≡ left) × (still ≡ [])
    IsPickedBy left (Some x) kept still = (test x ≡ true) × (left ≡ kept ++ x ∷ still)

    behind_one : (picked : Option X) (x : X) (left more kept still : List X) → test x ≡ false → kept ≡ x ∷ more
        → IsPickedBy left picked more still → IsPickedBy (x ∷ left) picked kept still
    behind_one None x left more kept still fails is (none, same, rest) =
        (All-cons (λ y. test y ≡ false) x left fails none, is ∙ ap (λ l. x ∷ l) same, rest)
    behind_one (Some found) x left more kept still fails is (passes, parts) =
        (passes, ap (λ l. x ∷ l) parts ∙ ap (λ l. l ++ found ∷ still) (sym is))

    picked_at : (answer : Bool) (between last : S) (y x : X) (left kept still : List X) (picked : Option X) → y ≡ x → answer ≡ test x
        → ((more : List X) → ExtractsNext asks between left picked last more still → IsPickedBy left picked more still)
        → MatchBool answer ((picked ≡ Some y) × (last ≡ between) × (kept ≡ []) × (still ≡ left))
        ((more : List X) × ExtractsNext asks between left picked last more still × (kept ≡ y ∷ more))
        → IsPickedBy (x ∷ left) picked kept still
    picked_at true between last y x left kept still picked same tells behind (is, end, none, rest) =
        rw (is, none, rest, same) (sym tells, refl)
    picked_at false between last y x left kept still picked same tells behind (more, asked, is) =
        behind_one picked x left more kept still (sym tells) (is ∙ ap (λ z. z ∷ more) same) (behind more asked)

    pub picked_by : (first : S) (left : List X) (picked : Option X) (last : S) (kept still : List X)
        → ExtractsNext asks first left picked last kept still → IsPickedBy left picked kept still
    picked_by first [] picked last kept still (none, same, no_more, rest) = rw none (All-nil _, no_more, rest)
    picked_by first (x ∷ left) picked last kept still (answer, between, y, call, then_so) =
        let told = says first x answer between y call in
        picked_at answer between last y x left kept still picked told.1 told.0
        (λ more asked. picked_by between left picked last more still asked) then_so

-- a result that is whether a number is less
pub tells_less : (answer : Bool) (m n : ℕ) → (IsTrue answer → m < n) → (m < n → IsTrue answer) → answer ≡ nat_lt m n
tells_less answer m n less is = search rules
