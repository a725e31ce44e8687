use Rattle.std.proofs.Common.{◌∙◌, inl, inr, sym}
use Rattle.bucket_calls.specs.Copies.{InsertsCopy}
use Rattle.bucket_calls.proofs.copies.insert_key.Goals as goal

pub returns-in-Ok : goal.returns-in-Ok
unfolding InsertsCopy
returns-in-Ok g c = inr (sym c.contains.ensures ∙ c.if-contains.false, inl (c.in-Ok.own, c.in-Ok.ensures.made, c.insert_key.ensures))
