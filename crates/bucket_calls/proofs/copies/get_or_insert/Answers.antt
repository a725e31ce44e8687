use Rattle.std.proofs.Common.{ℕ, inr, refl, subst}
use Rattle.bucket_calls.specs.Copies.{AddsCopy, InsertsCopy}
use Rattle.bucket_calls.proofs.copies.get_or_insert.Goals as goal

pub returns-then-code-eq-NO_MEMORY : goal.returns-then-code-eq-NO_MEMORY
unfolding InsertsCopy
returns-then-code-eq-NO_MEMORY g c =
    let added = c.add_copy-code in
    let Adds : ℕ → Type 0 =
    λ code. AddsCopy g.K.PartialEq.eq g.H.KeyHash.hash_of (g.Q.KeyForm.stands_for c.args.key) (g.Q.CopiedKey.may_fail c.args.key)
    c.args.value c.args.map.now code added.new.map in
    (inr (subst Adds c.if-code-eq-NO_MEMORY.true added.ensures), refl)
