use Rattle.bucket_table.proofs.Walking.Leaving.{gone_changed}
use Rattle.bucket_table.proofs.Walking.RetainingTable.{one_map_losing}
use Rattle.bucket_table.proofs.Map.Counted.{counted_after, len_in_row}
use Rattle.bucket_table.proofs.hash_table.HashTable.retain_nth.Goals as goal

pub invariant_of-self : goal.invariant_of-self
invariant_of-self g c =
    let within = rw (← c.self.view_is) at c.requires.within in
    let left = rw c.nth_mut.ensures.bucket at c.retain_each_in-gone.ensures.left in
    let r = rw c.nth_mut.ensures.bucket at c.retain_each_in-gone.ensures.retained in
    counted_after c.self.invariant (rw c.refresh_nth.ensures (one_map_losing g.met.K.Eq.laws (g.H.KeyHash.hash_of c.self.inside.hasher)
    c.self.invariant.one_map within (rw (← c.self.view_is) at c.requires.some) (gone_changed g.row.TYPE _ left.0 _ _ left.1).0))
    c.retain_each_in-gone.result 0
    (rw c.refresh_nth.ensures (len_in_row c.self.inside.arrays c.args.index c.retain_each_in-gone.new.bucket _ within r.counted))
    c.count_after-self-inside.ensures

pub returns-clause-retained : goal.returns-clause-retained
returns-clause-retained g c = rw (← c.self.view_is) (record {
  left = c.retain_each_in-gone.new.bucket;
  retains = rw c.nth_mut.ensures.bucket at c.retain_each_in-gone.ensures.retained;
  slots = rw c.nth_mut.ensures.bucket at c.retain_each_in-gone.ensures.left;
  new_is = c.refresh_nth.ensures;
})
