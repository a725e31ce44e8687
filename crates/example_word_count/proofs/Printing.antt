-- What is in an output if the rows of a report are put one by one.
use Rattle.std.proofs.Common.{ℕ, ◌≡◌, ◌+◌, ◌<◌, ◌∙◌, List, [], ◌∷◌, ◌++◌, length, map, take, get_or, Option, Some, None, Result, Ok, Err}
use Rattle.std.proofs.Common.{OnOk, append-nil, ap, refl, subst, sym}
use Rattle.std.proofs.KnownBytes.{Appends-kept, Appends-trans}
use Rattle.std.proofs.lemmas.Grind.{flat_map-append}
use Rattle.std.proofs.lemmas.List.{map-append, take_more}
use Rattle.std.specs.Io.KnownBytes.{Appends, Keeps, append_known}
use Rattle.example_word_count.specs.Reports.{Row, text_of, text_of_row}
use Rattle.example_word_count.specs.Waiting.{HasPut}

append_known-nil : (known : Option (List ℕ)) → append_known known [] ≡ known
append_known-nil None = refl
append_known-nil (Some bytes) = ap Some (append-nil bytes)

-- one row more
text_of-more : {X : Type 0} (row : X → Row) (items : List X) (place : ℕ) (d : X) → place < length items
    → text_of (map row (take (place + 1) items)) ≡ text_of (map row (take place items)) ++ text_of_row (row (get_or items place d))
text_of-more row items place d below =
    ap (λ l. text_of (map row l)) (take_more items place d below)
    ∙ ap text_of (map-append row (take place items) (get_or items place d ∷ []))
    ∙ flat_map-append text_of_row (map row (take place items)) (row (get_or items place d) ∷ [])
    ∙ ap (λ text. text_of (map row (take place items)) ++ text) (append-nil (text_of_row (row (get_or items place d))))

pub rows_put : {X : Type 0} (row : X → Row) (items : List X) (place : ℕ) (d : X) (start old new : Option (List ℕ)) (waited waits : List ℕ)
    → place < length items → HasPut start [] old waited (text_of (map row (take place items)))
    → HasPut old waited new waits (text_of_row (row (get_or items place d)))
    → HasPut start [] new waits (text_of (map row (take (place + 1) items)))
rows_put row items place d start old new waited waits below so_far put =
    subst (λ text. HasPut start [] new waits text) (sym (text_of-more row items place d below))
    (Appends-trans (append_known start []) (append_known old waited) (append_known new waits) (text_of (map row (take place items)))
    (text_of_row (row (get_or items place d))) so_far put)

-- the waiting text is written
pub written : (start old new last : Option (List ℕ)) (waited waits text : List ℕ) → HasPut start [] old waited text → waits ≡ []
    → HasPut old waited new waits [] → Keeps new last → Appends start last text
written start old new last waited waits text put none out kept =
    let whole = subst (λ w. HasPut old waited new w []) none out in
    let all = Appends-trans (append_known start []) (append_known old waited) (append_known new []) text [] put whole in
    Appends-kept start new last text (rw (append_known-nil start, append_known-nil new, append-nil text) at all) kept

-- what holds at all holds at `Ok`
pub at_ok : {T E P : Type 0} (result : Result T E) → P → OnOk result P
at_ok (Ok value) holds = holds
at_ok (Err error) holds = tt
