use Rattle.bucket_table.proofs.Words.{refl}
use Rattle.bucket_table.specs.Views.LockedLaws.{locked_change}
use Rattle.bucket_table.proofs.Map.MapSteps.{touched}
use Rattle.bucket_table.proofs.Views.SideChanges.{changeable_locked}
use Rattle.bucket_table.proofs.Map.Counted.{counted_same, len_kept}
use Rattle.bucket_table.proofs.hash_table.locked_bucket.LockedBucket.update_lru_tail.Goals as goal

pub invariant_of-table : goal.invariant_of-table
invariant_of-table g c =
    let o = c.args.self.now in
    let x = touched g.met.K.Eq.laws g.H.KeyHash.hash_of g.row.TYPE o.side o.index c.table.invariant.one_map
    (changeable_locked _ _ _ (rw (← c.table.view_is) at o.locked)) g.L.LruList.KEEPS c.args.at.now in
    rw c.touch_slot.ensures (counted_same c.table.invariant x.one_map (len_kept _ _ x.map.pairs))

pub invariant_of-self : goal.invariant_of-self
invariant_of-self g c = record {
  locked = rw c.touch_slot.ensures (locked_change _ _ _ _ (rw (← c.table.view_is) at c.args.self.now.locked) refl);
}

pub returns-clause-map : goal.returns-clause-map
returns-clause-map g c =
    let o = c.args.self.now in
    rw (← c.table.view_is, c.touch_slot.ensures) (touched g.met.K.Eq.laws g.H.KeyHash.hash_of g.row.TYPE o.side o.index
    c.table.invariant.one_map
    (changeable_locked _ _ _ (rw (← c.table.view_is) at o.locked)) g.L.LruList.KEEPS c.args.at.now).map

pub returns-clause-changed : goal.returns-clause-changed
returns-clause-changed g c = record {
  same_table = refl;
  same_side = refl;
  same_index = refl;
  table = rw (← c.table.view_is, c.touch_slot.ensures) refl;
}
