use Rattle.bucket_table.proofs.Words.{pairs_of, rules, subst, sym, ◌≡◌}
use Rattle.bucket_table.specs.Map.LookingUp.{IsThere}
use Rattle.bucket_table.specs.Map.MapState.{state_of}
use Rattle.bucket_table.proofs.Scripts.CallSteps.{there_before}
use Rattle.bucket_table.proofs.Map.TakeSteps.{absent_before}
use Rattle.bucket_table.proofs.script.read.Goals as goal

pub returns-in-Some-clause-step : goal.returns-in-Some-clause-step
returns-in-Some-clause-step g c =
    let found = c.in-Some.ensures.found in
    let answer : c.in-Some.value ≡ found.1.now = search (rules, found.3) in
    let there = there_before (λ own. g.K.PartialEq.eq own c.args.key) (state_of g.row.TYPE c.args.table.now)
    (state_of g.row.TYPE c.reader_sync.new.self)
    (found.0.now, found.1.now) c.reader_sync.ensures.prepared.map found.2 in (
      (
        found.0.now,
        subst (λ (v : g.row.V.Denot). IsThere (λ own. g.K.PartialEq.eq own c.args.key)
            (pairs_of c.args.table.now.arrays) (found.0.now, v)) (sym answer) there,
      ),
      c.reader_sync.ensures.prepared.map,
    )

pub returns-in-Some-clause-tickets : goal.returns-in-Some-clause-tickets
returns-in-Some-clause-tickets g c = c.reader_sync.ensures.prepared.kept.keeps.open_tickets

pub returns-in-None-clause-step : goal.returns-in-None-clause-step
returns-in-None-clause-step g c = (
  absent_before (λ own. g.K.PartialEq.eq own c.args.key) (state_of g.row.TYPE c.args.table.now) (state_of g.row.TYPE c.reader_sync.new.self)
      c.reader_sync.ensures.prepared.map c.in-None.ensures.absent,
  c.reader_sync.ensures.prepared.map,
)

pub returns-in-None-clause-tickets : goal.returns-in-None-clause-tickets
returns-in-None-clause-tickets g c = c.reader_sync.ensures.prepared.kept.keeps.open_tickets
