use Rattle.bucket_table.proofs.Moves.RoomMade.{zeros_each, zeros_len}
use Rattle.bucket_table.proofs.arrays.reserve.zero_counts.Goals as goal

pub returns-clause-len : goal.returns-clause-len
returns-clause-len c = zeros_len c.args.len _ (c.in-Ok.ensures.items_if_clones_equal (λ y h. h))

pub returns-clause-zeros : goal.returns-clause-zeros
returns-clause-zeros c = zeros_each c.args.len _ (c.in-Ok.ensures.items_if_clones_equal (λ y h. h))
