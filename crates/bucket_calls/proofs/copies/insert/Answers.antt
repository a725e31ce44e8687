use Rattle.std.proofs.Common.{inr}
use Rattle.bucket_calls.specs.Copies.{InsertsCopy}
use Rattle.bucket_calls.proofs.copies.insert.Goals as goal

pub returns : goal.returns
unfolding InsertsCopy
returns g c = inr c.add_copy.ensures
