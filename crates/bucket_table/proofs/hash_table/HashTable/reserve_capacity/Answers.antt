use Rattle.bucket_table.proofs.Resize.Settling.{map_raised, raises}
use Rattle.bucket_table.proofs.hash_table.HashTable.reserve_capacity.Goals as goal

pub invariant_of-self : goal.invariant_of-self
invariant_of-self g c =
    let e = c.reserve_capacity.ensures in
    let hash = g.H.KeyHash.hash_of c.self.inside.hasher in
    map_raised g.K.PartialEq.eq g.met.K.Eq.laws hash c.self.inside.arrays c.reserve_capacity.new.self _ c.self.invariant e.kept
    (e.placed hash c.self.invariant.one_map.placed)

pub returns-clause-map : goal.returns-clause-map
returns-clause-map g c =
    rw (← c.self.view_is) (raises g.row.TYPE _ _ c.reserve_capacity.new.self c.args.additional c.reserve_capacity.result
    c.reserve_capacity.ensures.reserved c.reserve_capacity.ensures.kept)
