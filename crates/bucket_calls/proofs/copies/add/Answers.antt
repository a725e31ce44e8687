use Rattle.std.proofs.Common.{ℕ, ap, inl, inr, option_map, refl, subst, sym, unwrap_or}
use Rattle.bucket_calls.specs.Copies.{AddsCopy, PutsCopy, word_sum}
use Rattle.bucket_calls.proofs.Lent.{replaces_lent}
use Rattle.bucket_calls.proofs.copies.add.Goals as goal

pub returns-then-code-eq-NO_MEMORY : goal.returns-then-code-eq-NO_MEMORY
unfolding PutsCopy
returns-then-code-eq-NO_MEMORY g c =
    let added = c.add_copy-code in
    let Adds : ℕ → Type 0 =
    λ code. AddsCopy g.K.PartialEq.eq g.H.KeyHash.hash_of (g.Q.KeyForm.stands_for c.args.key) (g.Q.CopiedKey.may_fail c.args.key)
    c.args.amount c.args.map.now code added.new.map in
    (inr (subst Adds c.if-code-eq-NO_MEMORY.true added.ensures), refl)

pub returns : goal.returns
unfolding PutsCopy
returns g c =
    let last = word_sum c.in-Some.held.now c.args.amount in
    let lent = c.get_mut.follows in
    let found = replaces_lent g.K.PartialEq.eq c.args.map.now (lent.lender last) (g.Q.KeyForm.stands_for c.args.key)
    c.get_mut.result c.in-Some.held last last c.in-Some.is refl (lent.holds last) in (
      inl (found.0, c.in-Some.held.now, refl, found.1),
      sym (ap (λ own. unwrap_or (option_map (λ held. word_sum held c.args.amount) own) c.args.amount) found.1.value),
    )
