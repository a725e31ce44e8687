use Rattle.bucket_table.proofs.Words.{rules, scales}
use Rattle.bucket_slots.proofs.ArrayNumbers.{one_source}
use Rattle.bucket_table.proofs.capacity.ranges_part_the_indices.Goals as goal

pub returns : goal.returns
returns c = λ j within.
    one_source c.args.from c.args.to _ j (scales c.args.from c.args.to c.requires.from_power c.requires.to_power c.requires.no_shorter
    (search rules)) within
