use Rattle.std.proofs.Common.{◌∙◌, ap, inl, refl, sym, unwrap_or}
use Rattle.bucket_calls.specs.Copies.{PutsCopy}
use Rattle.bucket_calls.proofs.Lent.{replaces_lent}
use Rattle.bucket_calls.proofs.copies.upsert.Goals as goal

pub returns : goal.returns
unfolding PutsCopy
returns g c =
    let last = c.replace.new.dest in
    let lent = c.get_mut.follows in
    let found = replaces_lent g.K.PartialEq.eq c.args.map.now (lent.lender last) (g.Q.KeyForm.stands_for c.args.key)
    c.get_mut.result c.in-Some.held last c.args.value c.in-Some.is c.replace.ensures.after (lent.holds last) in (
      inl (found.0, c.in-Some.held.now, refl, found.1),
      c.replace.ensures.value ∙ sym (ap (λ own. unwrap_or own c.args.earlier.now) found.1.value),
    )
