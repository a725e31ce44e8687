use Rattle.bucket_table.proofs.Words.{arith, rules, scales}
use Rattle.bucket_slots.proofs.ArrayNumbers.{homes_meet, meets_longer, range_shorter, row_below}
use Rattle.bucket_table.proofs.capacity.from_index_to_range.Goals as goal

pub returns-then-from-to-clause-range : goal.returns-then-from-to-clause-range
returns-then-from-to-clause-range c = λ j.
    meets_longer c.args.from c.args.to _ c.args.index j (scales c.args.from c.args.to c.requires.from_power c.requires.to_power
    (omega arith) (search rules))

pub returns-then-from-to-clause-homes : goal.returns-then-from-to-clause-homes
returns-then-from-to-clause-homes c = λ hash j from to.
    let range = meets_longer c.args.from c.args.to _ c.args.index j (scales c.args.from c.args.to c.requires.from_power c.requires.to_power
    (omega arith) (search rules)) in
    range.1 (homes_meet c.args.from c.args.to c.args.index j hash from to)

pub returns-else-from-to-clause-range : goal.returns-else-from-to-clause-range
returns-else-from-to-clause-range c = λ j.
    range_shorter c.args.from c.args.to _ c.args.index j (scales c.args.to c.args.from c.requires.to_power c.requires.from_power
    c.if-from-to.false (search rules))

pub returns-else-from-to-clause-homes : goal.returns-else-from-to-clause-homes
returns-else-from-to-clause-homes c = λ hash j from to.
    let range = range_shorter c.args.from c.args.to _ c.args.index j (scales c.args.to c.args.from c.requires.to_power c.requires.from_power
    c.if-from-to.false (search rules)) in
    range.1 (homes_meet c.args.from c.args.to c.args.index j hash from to)

pub returns-else-from-to-clause-within : goal.returns-else-from-to-clause-within
returns-else-from-to-clause-within c =
    let below = row_below c.args.from c.args.to _ c.args.index (scales c.args.to c.args.from c.requires.to_power c.requires.from_power
    c.if-from-to.false (search rules)) c.requires.in_range in
    omega arith
