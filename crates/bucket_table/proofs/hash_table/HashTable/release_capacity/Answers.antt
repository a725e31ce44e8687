use Rattle.bucket_table.proofs.Resize.Settling.{lowers, map_raised}
use Rattle.bucket_table.proofs.hash_table.HashTable.release_capacity.Goals as goal

pub invariant_of-self : goal.invariant_of-self
invariant_of-self g c =
    let e = c.release_capacity.ensures in
    let hash = g.H.KeyHash.hash_of c.self.inside.hasher in
    map_raised g.K.PartialEq.eq g.met.K.Eq.laws hash c.self.inside.arrays c.release_capacity.new.self _ c.self.invariant e.kept
    (e.placed hash c.self.invariant.one_map.placed)

pub returns-clause-map : goal.returns-clause-map
returns-clause-map g c =
    rw (← c.self.view_is) (lowers g.row.TYPE _ _ c.release_capacity.new.self c.args.released c.release_capacity.result
    c.release_capacity.ensures.released c.release_capacity.ensures.kept)
