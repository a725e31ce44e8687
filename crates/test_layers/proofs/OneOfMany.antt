-- One member of a list is put back as it was.
use Rattle.std.proofs.Common.{ℕ, ◌≡◌, Result, Ok, Err, OnErr, List, get_or, set, ap, ◌∙◌}
use Rattle.std.proofs.lemmas.List.{set-get_or}

-- if a call on the member fails and doesn't change it, the list doesn't change
pub unchanged_by_failure : {A E X : Type 0} (result : Result A E) (members : List X) (index : ℕ) (before after : X)
    → before ≡ get_or members index before → OnErr result (after ≡ before)
    → OnErr result (set members index after ≡ members)
unchanged_by_failure (Ok answer) members index before after member same = tt
unchanged_by_failure (Err error) members index before after member same =
    ap (set members index) (same ∙ member) ∙ set-get_or members index before
