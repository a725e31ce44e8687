use Rattle.bucket_table.proofs.Map.Counted.{map_kept}
use Rattle.bucket_table.proofs.Map.MapKept.{state_found}
use Rattle.bucket_table.proofs.hash_table.HashTable.first_past_bucket.Goals as goal

pub invariant_of-self : goal.invariant_of-self
invariant_of-self g c =
    map_kept g.K.PartialEq.eq g.met.K.Eq.laws (g.H.KeyHash.hash_of c.self.inside.hasher) c.self.inside.arrays
    c.first_past_bucket.new.self c.self.invariant c.first_past_bucket.ensures.kept c.first_past_bucket.ensures.placed

pub returns-clause-map : goal.returns-clause-map
returns-clause-map g c = rw (← c.self.view_is) (state_found g.row.TYPE _ _ c.first_past_bucket.new.self c.first_past_bucket.ensures.kept)
