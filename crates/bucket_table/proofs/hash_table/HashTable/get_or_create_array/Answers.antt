use Rattle.bucket_table.proofs.Resize.Growing.{kept_made, placed_made}
use Rattle.bucket_table.proofs.Map.Counted.{map_kept}
use Rattle.bucket_table.proofs.hash_table.HashTable.get_or_create_array.Goals as goal

pub invariant_of-self-2 : goal.invariant_of-self-2
invariant_of-self-2 g c =
    map_kept g.K.PartialEq.eq g.met.K.Eq.laws (g.H.KeyHash.hash_of c.self.inside.hasher) c.self.inside.arrays c.make_array.new.self
    c.self.invariant
    (kept_made _ _ c.in_ok-make_array.ensures.made) (placed_made _ _ _ c.in_ok-make_array.ensures.made c.self.invariant.one_map.placed)
