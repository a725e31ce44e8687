use Rattle.bucket_table.proofs.Words.{arith, pairs_of, refl}
use Rattle.bucket_table.proofs.Walking.WalkCounts.{clears_all, clears_below, emptied, emptied_below, none_counted}
use Rattle.bucket_table.proofs.script.walks.clear.Goals as goal

pub returns-then-num_slots-eq0-clause-step : goal.returns-then-num_slots-eq0-clause-step
returns-then-num_slots-eq0-clause-step g c =
    let none = c.fact_sound.ensures.empty (omega (arith, c.num_slots.ensures, c.if-num_slots-eq0.true)) in
    clears_all g.row.TYPE c.args.table.now c.args.table.now refl 0 refl refl (none, none_counted (pairs_of c.args.table.now.arrays) none)

pub returns-then-num_slots-eq0-clause-tickets : goal.returns-then-num_slots-eq0-clause-tickets
returns-then-num_slots-eq0-clause-tickets g c = λ unit. refl

pub returns-in-Ok-clause-step : goal.returns-in-Ok-clause-step
returns-in-Ok-clause-step g c =
    let w = c.for_each_writer_sync in
    clears_all g.row.TYPE c.args.table.now w.new.self w.ensures.settings.hasher _ w.ensures.settings.minimum w.ensures.settings.maximum
    (emptied g.row.TYPE (λ e. g.G.Generation.epoch_of e.generation.now) (λ e. e.count) (g.H.KeyHash.hash_of c.args.table.now.hasher)
    c.args.table.now.arrays c.fact_sound.ensures.empty c.fact_sound.ensures.long (g.met.H.KeyHash.fits c.args.table.now.hasher)
    _ _ w.new.visitor w.new.self.arrays refl c.in-Ok.ensures.walked)

pub returns-in-Ok-clause-tickets : goal.returns-in-Ok-clause-tickets
returns-in-Ok-clause-tickets g c = c.for_each_writer_sync.ensures.settings.bag

pub returns-in-Err-clause-step : goal.returns-in-Err-clause-step
returns-in-Err-clause-step g c =
    let w = c.for_each_writer_sync in
    clears_below g.row.TYPE c.args.table.now w.new.self w.ensures.settings.hasher g.H.KeyHash.hash_of w.ensures.settings.minimum
    w.ensures.settings.maximum
    (emptied_below g.row.TYPE (λ e. g.G.Generation.epoch_of e.generation.now) (λ e. e.count) (g.H.KeyHash.hash_of c.args.table.now.hasher)
    c.args.table.now.arrays _ _ w.new.visitor w.new.self.arrays c.in-Err.ensures.walked)

pub returns-in-Err-clause-tickets : goal.returns-in-Err-clause-tickets
returns-in-Err-clause-tickets g c = c.for_each_writer_sync.ensures.settings.bag
