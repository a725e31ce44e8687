use Rattle.bucket_table.proofs.Map.Counted.{map_kept}
use Rattle.bucket_table.proofs.Map.MapKept.{state_found}
use Rattle.bucket_table.proofs.hash_table.locked_bucket.LockedBucket.try_shrink.Goals as goal

pub invariant_of-table : goal.invariant_of-table
invariant_of-table g c =
    let e = c.try_shrink.ensures in
    let hash = g.H.KeyHash.hash_of c.table.inside.hasher in
    map_kept g.K.PartialEq.eq g.met.K.Eq.laws hash c.table.inside.arrays c.try_shrink.new.self c.table.invariant e.kept
    (e.placed hash c.table.invariant.one_map.placed)

pub returns-clause-map : goal.returns-clause-map
returns-clause-map g c = rw (← c.table.view_is) (state_found g.row.TYPE _ _ c.try_shrink.new.self c.try_shrink.ensures.kept)

pub returns-clause-asked : goal.returns-clause-asked
returns-clause-asked g c = rw (← c.table.view_is) c.try_shrink.ensures.asked
