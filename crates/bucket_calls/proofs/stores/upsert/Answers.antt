use Rattle.std.proofs.Common.{inl}
use Rattle.bucket_calls.specs.Stores.{UpsertsBytes}
use Rattle.bucket_calls.proofs.stores.upsert.Goals as goal

pub returns-in-Ok : goal.returns-in-Ok
unfolding UpsertsBytes
returns-in-Ok c = inl (c.in-Ok.held, c.in-Ok.ensures.copied, c.upsert.ensures.0)
