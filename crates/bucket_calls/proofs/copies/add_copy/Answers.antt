use Rattle.std.proofs.Common.{inl}
use Rattle.bucket_calls.proofs.copies.add_copy.Goals as goal

pub returns-in-Ok : goal.returns-in-Ok
returns-in-Ok g c = (c.requires, inl (c.in-Ok.own, c.in-Ok.ensures.made, c.insert.ensures))
