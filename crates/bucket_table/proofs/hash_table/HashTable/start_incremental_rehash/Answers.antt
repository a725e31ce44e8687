use Rattle.bucket_table.proofs.Scripts.CallSteps.{kept}
use Rattle.bucket_table.proofs.Rehash.Ending.{placed_start}
use Rattle.bucket_table.proofs.Rehash.UnitWork.{none_start}
use Rattle.bucket_table.proofs.hash_table.HashTable.start_incremental_rehash.Goals as goal

pub invariant_of-self : goal.invariant_of-self
invariant_of-self g c =
    let e = c.start_incremental_rehash.ensures in
    record {
      one_map = record {
        distinct = rw e.others c.self.invariant.one_map.distinct;
        placed = placed_start _ _ _ c.start_incremental_rehash.result e.tickets e.others c.self.invariant.one_map.placed;
      };
      counted = rw e.others c.self.invariant.counted;
    }

pub returns-clause-map : goal.returns-clause-map
returns-clause-map g c = rw (← c.self.view_is, c.start_incremental_rehash.ensures.others) (kept _)

pub returns-clause-none : goal.returns-clause-none
returns-clause-none g c =
    rw (← c.self.view_is) (λ none. none_start c.self.inside.arrays c.start_incremental_rehash.result _
    c.fact_sound.ensures.tickets_len
    none c.start_incremental_rehash.ensures.tickets)
