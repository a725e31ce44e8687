use Rattle.bucket_table.proofs.Map.LockedSteps.{shrinks_after}
use Rattle.bucket_table.proofs.arrays.Arrays.take_at.Goals as goal

pub returns-clause-asked : goal.returns-clause-asked
returns-clause-asked g c =
    shrinks_after c.args.pairs _ c.args.side c.args.index _ c.shrink_left.new.self c.requires.within
    (rw c.take_slot-pair.ensures.arrays at c.shrink_left.ensures.asked)

pub returns-clause-kept : goal.returns-clause-kept
returns-clause-kept g c = rw c.take_slot-pair.ensures.arrays at c.shrink_left.ensures.kept

pub returns-clause-placed : goal.returns-clause-placed
returns-clause-placed g c = rw c.take_slot-pair.ensures.arrays at c.shrink_left.ensures.placed
