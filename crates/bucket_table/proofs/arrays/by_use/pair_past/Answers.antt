use Rattle.bucket_table.proofs.Walking.Row.{moves_past}
use Rattle.bucket_table.proofs.arrays.by_use.pair_past.Goals as goal

pub returns-then-find_next : goal.returns-then-find_next
returns-then-find_next g c =
    moves_past c.args.bucket.now c.args.at.now c.find_next.new.self _ (c.find_next.ensures.ahead c.if-find_next.true) c.entry.ensures.pair
