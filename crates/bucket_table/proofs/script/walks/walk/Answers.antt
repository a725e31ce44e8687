use Rattle.bucket_table.proofs.Words.{arith, pairs_of, refl}
use Rattle.bucket_table.specs.Map.MapState.{state_of}
use Rattle.bucket_table.proofs.Scripts.CallSteps.{kept}
use Rattle.bucket_table.proofs.Walking.WalkCounts.{none_counted, tallied}
use Rattle.bucket_table.proofs.script.walks.walk.Goals as goal

pub returns-then-num_slots-eq0-clause-step : goal.returns-then-num_slots-eq0-clause-step
returns-then-num_slots-eq0-clause-step g c =
    let none = c.fact_sound.ensures.empty (omega (arith, c.num_slots.ensures, c.if-num_slots-eq0.true)) in
    (none_counted (pairs_of c.args.table.now.arrays) none, kept (state_of g.row.TYPE c.args.table.now))

pub returns-then-num_slots-eq0-clause-tickets : goal.returns-then-num_slots-eq0-clause-tickets
returns-then-num_slots-eq0-clause-tickets g c = λ unit. refl

pub returns-in-Ok-clause-step : goal.returns-in-Ok-clause-step
returns-in-Ok-clause-step g c = (
  tallied (λ t. t.buckets) (λ t. t.pairs) (g.H.KeyHash.hash_of c.args.table.now.hasher)
      c.args.table.now.arrays c.fact_sound.ensures.empty c.fact_sound.ensures.long (g.met.H.KeyHash.fits c.args.table.now.hasher)
      _ _ c.for_each_reader_sync.new.reader c.for_each_reader_sync.new.self.arrays refl c.in-Ok.ensures.walked,
  c.for_each_reader_sync.ensures.map,
)

pub returns-in-Ok-clause-tickets : goal.returns-in-Ok-clause-tickets
returns-in-Ok-clause-tickets g c = c.for_each_reader_sync.ensures.kept.keeps.open_tickets

pub returns-in-Err-clause-step : goal.returns-in-Err-clause-step
returns-in-Err-clause-step g c = c.for_each_reader_sync.ensures.map

pub returns-in-Err-clause-tickets : goal.returns-in-Err-clause-tickets
returns-in-Err-clause-tickets g c = c.for_each_reader_sync.ensures.kept.keeps.open_tickets
