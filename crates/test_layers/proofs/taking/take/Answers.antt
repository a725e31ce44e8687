use Rattle.std.proofs.Common.{rules, sym, ◌∙◌}
use Rattle.bucket_slots.proofs.PairsAfter.{live_from_pair}
use Rattle.bucket_table.proofs.Map.LookUps.{null_is}
use Rattle.bucket_table.proofs.Map.TakeSteps.{absent_before, same_taken, then_taken}
use Rattle.test_layers.proofs.taking.take.Goals as goal

pub returns-then-not-is_valid : goal.returns-then-not-is_valid
returns-then-not-is_valid g c =
    let none = c.search-at.ensures.absent (null_is _ _ c.is_valid.ensures.1 c.if-not-is_valid.true) in
    let keeps = c.in-Ok.ensures.found.map in (
      absent_before (λ own. g.K.PartialEq.eq own c.args.key.now) _ _ keeps none,
      rw (c.table-then-not-is_valid-1.given.1 (sym c.in-Ok.ensures.same_table)) keeps,
    )

pub remove-pair-requires : goal.remove-pair-requires
remove-pair-requires g c =
    let found = c.search-at.ensures.found (c.is_valid.ensures.0 c.if-not-is_valid.false) in
    let live = live_from_pair _ found.0 found.1 in
    (search rules, (search rules, (search rules, (search rules, live))))

pub returns : goal.returns
returns g c =
    let found = c.search-at.ensures.found (c.is_valid.ensures.0 c.if-not-is_valid.false) in
    let takes = then_taken _ _ _ c.remove-pair.result.0 c.in-Ok.ensures.found.map c.remove-pair.ensures.map in (
      same_taken (λ own. g.K.PartialEq.eq own c.args.key.now) _ _ found.0 c.remove-pair.result.0 found.1 found.2 c.remove-pair.ensures.pair,
      rw (c.table-2-1.given.1 (sym (c.remove-pair.ensures.changed.same_table ∙ c.in-Ok.ensures.same_table))) takes,
    )
