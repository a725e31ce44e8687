use Rattle.bucket_table.proofs.Words.{◌∙◌}
use Rattle.bucket_table.proofs.Rehash.Ending.{marks_ended, not_open, placed_end}
use Rattle.bucket_table.proofs.Views.Laws.{none_open}
use Rattle.bucket_table.proofs.Rehash.TicketSteps.{ended_map}
use Rattle.bucket_table.proofs.hash_table.HashTable.end_incremental_rehash.Goals as goal

pub invariant_of-self : goal.invariant_of-self
invariant_of-self g c =
    let e = c.end_incremental_rehash.ensures in
    record {
      one_map = record {
        distinct = rw e.same_pairs c.self.invariant.one_map.distinct;
        placed = placed_end _ _ _ c.args.ticket c.args.success c.end_incremental_rehash.result e.rehash c.self.invariant.one_map.placed;
      };
      counted = rw e.same_pairs c.self.invariant.counted;
    }

pub returns-clause-map : goal.returns-clause-map
returns-clause-map g c =
    let e = c.end_incremental_rehash.ensures in
    rw (← c.self.view_is) (ended_map g.row.TYPE _ c.self.inside.arrays _ c.args.ticket c.args.success c.end_incremental_rehash.result
    e.same_pairs e.rehash)

pub returns-clause-marks : goal.returns-clause-marks
returns-clause-marks g c =
    rw (← c.self.view_is) (marks_ended _ _ c.args.ticket c.args.success c.end_incremental_rehash.result
    c.end_incremental_rehash.ensures.rehash)

pub returns-clause-none : goal.returns-clause-none
returns-clause-none g c = rw (← c.self.view_is) (λ none.
    let unopened = none_open c.self.inside.arrays.tickets c.fact_tickets.ensures (c.fact_sound.ensures.tickets_len ∙ none) in
    not_open _ _ c.args.ticket c.args.success c.end_incremental_rehash.result unopened c.end_incremental_rehash.ensures.rehash)
