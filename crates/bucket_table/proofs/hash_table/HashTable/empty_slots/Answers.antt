use Rattle.bucket_table.proofs.Map.Counted.{map_kept, nothing_counted}
use Rattle.bucket_table.proofs.Resize.Following.{emptied_keeps, emptied_placed}
use Rattle.bucket_table.proofs.hash_table.HashTable.empty_slots.Goals as goal

pub invariant_of-self : goal.invariant_of-self
invariant_of-self g c =
    let eq = g.K.PartialEq.eq in
    let hash = g.H.KeyHash.hash_of c.self.inside.hasher in
    let arrays = c.self.inside.arrays in
    rw (c.empty_slots.ensures, c.new-self-inside.ensures)
    (map_kept eq g.met.K.Eq.laws hash _ _ (nothing_counted eq hash arrays.minimum arrays.maximum) (emptied_keeps arrays)
    (emptied_placed arrays hash))
