use Rattle.bucket_table.proofs.Walking.AskingOwn.{left_own}
use Rattle.bucket_table.proofs.retain.retain_front.Goals as goal

pub returns-clause-left : goal.returns-clause-left
returns-clause-left g c = λ epoch.
    left_own _ g.row.TYPE epoch c.args.keep.now c.retain_own.new.keep c.args.bucket.now c.retain_own.new.self c.if-this-eq-INDEX.false
    c.if-this-eq-CACHE.false c.fact_sound.ensures c.retain_own.ensures.asked
