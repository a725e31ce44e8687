use Rattle.bucket_table.proofs.Moves.CarriedPairs.{carried_still}
use Rattle.bucket_table.proofs.Map.Counted.{map_kept}
use Rattle.bucket_table.proofs.Map.MapKept.{kept_of, state_found}
use Rattle.bucket_table.proofs.hash_table.HashTable.relocate_bucket_sync.Goals as goal

pub invariant_of-self : goal.invariant_of-self
invariant_of-self g c =
    let e = c.relocate.ensures in
    map_kept g.K.PartialEq.eq g.met.K.Eq.laws (g.H.KeyHash.hash_of c.self.inside.hasher) c.self.inside.arrays c.relocate.new.self
    c.self.invariant
    (kept_of c.relocate.result c.args.index c.self.inside.arrays c.relocate.new.self e.done e.refused).keeps e.placed

pub returns-clause-map : goal.returns-clause-map
returns-clause-map g c = rw (← c.self.view_is) (state_found g.row.TYPE _ _ c.relocate.new.self
    (kept_of c.relocate.result c.args.index c.self.inside.arrays c.relocate.new.self c.relocate.ensures.done
    c.relocate.ensures.refused).keeps)

pub returns-clause-recency : goal.returns-clause-recency
returns-clause-recency g c =
    let e = c.relocate.ensures in
    let hash = g.H.KeyHash.hash_of c.self.inside.hasher in
    let kept = kept_of c.relocate.result c.args.index c.self.inside.arrays c.relocate.new.self e.done e.refused in
    let one = (map_kept g.K.PartialEq.eq g.met.K.Eq.laws hash c.self.inside.arrays c.relocate.new.self c.self.invariant kept.keeps
    e.placed).one_map in
    rw (← c.self.view_is) (carried_still c.relocate.result g.K.PartialEq.eq g.met.K.Eq.laws hash _ _ c.relocate.new.self one e.recency)
