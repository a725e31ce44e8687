use Rattle.bucket_table.proofs.Words.{slots_touched}
use Rattle.bucket_table.proofs.Map.OpenTickets.{bag_changed}
use Rattle.bucket_table.proofs.script.touch.Goals as goal

pub returns-then-touch-clause-tickets : goal.returns-then-touch-clause-tickets
returns-then-touch-clause-tickets g c =
    bag_changed g.row.TYPE (g.H.KeyHash.hash_of c.args.table.now.hasher c.args.key) c.args.table.now c.touch.new.self
    (λ own. g.K.PartialEq.eq own c.args.key) (slots_touched g.L.LruList.KEEPS) c.touch.result c.touch.ensures.arrays

pub returns-else-touch-clause-tickets : goal.returns-else-touch-clause-tickets
returns-else-touch-clause-tickets g c =
    bag_changed g.row.TYPE (g.H.KeyHash.hash_of c.args.table.now.hasher c.args.key) c.args.table.now c.touch.new.self
    (λ own. g.K.PartialEq.eq own c.args.key) (slots_touched g.L.LruList.KEEPS) c.touch.result c.touch.ensures.arrays
