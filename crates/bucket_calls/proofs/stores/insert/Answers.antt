use Rattle.std.proofs.Common.{◌∙◌, inl, inr, sym}
use Rattle.bucket_calls.specs.Stores.{InsertsBytes}
use Rattle.bucket_calls.proofs.stores.insert.Goals as goal

pub returns-in-Ok : goal.returns-in-Ok
unfolding InsertsBytes
returns-in-Ok c = inr (sym c.contains.ensures ∙ c.if-contains.false, inl (c.in-Ok.held, c.in-Ok.ensures.copied, c.add_copy.ensures))
