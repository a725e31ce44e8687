use Rattle.std.proofs.Common.{◌∙◌, inl, inr, sym}
use Rattle.bucket_calls.specs.Texts.{PutsText}
use Rattle.bucket_calls.proofs.texts.put.Goals as goal

pub returns-in-Ok : goal.returns-in-Ok
unfolding PutsText
returns-in-Ok c = inr (sym c.contains.ensures ∙ c.if-contains.false, inl (c.in-Ok.own, c.in-Ok.ensures.copied, c.put_text.ensures))
