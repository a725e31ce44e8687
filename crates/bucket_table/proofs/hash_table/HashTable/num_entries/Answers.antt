use Rattle.bucket_table.proofs.Words.{◌∙◌}
use Rattle.bucket_table.proofs.Map.CountSteps.{kept_alone}
use Rattle.bucket_table.proofs.Map.Counted.{map_kept}
use Rattle.bucket_table.proofs.Map.MapKept.{state_found}
use Rattle.bucket_table.proofs.hash_table.HashTable.num_entries.Goals as goal

pub invariant_of-self : goal.invariant_of-self
invariant_of-self g c =
    let e = c.count_on.ensures in
    map_kept g.K.PartialEq.eq g.met.K.Eq.laws (g.H.KeyHash.hash_of c.self.inside.hasher) c.self.inside.arrays c.count_on.new.self
    c.self.invariant e.kept e.placed

pub returns-clause-map : goal.returns-clause-map
returns-clause-map g c = rw (← c.self.view_is) (state_found g.row.TYPE _ _ c.count_on.new.self c.count_on.ensures.kept)

pub returns-clause-count : goal.returns-clause-count
returns-clause-count g c =
    let e = c.count_on.ensures in
    c.get-2.ensures
    ∙ (map_kept g.K.PartialEq.eq g.met.K.Eq.laws (g.H.KeyHash.hash_of c.self.inside.hasher) c.self.inside.arrays c.count_on.new.self
    c.self.invariant e.kept e.placed).counted

pub returns-clause-alone : goal.returns-clause-alone
returns-clause-alone g c = rw (← c.self.view_is) (kept_alone _ _ c.count_on.new.self c.count_on.ensures.alone)
