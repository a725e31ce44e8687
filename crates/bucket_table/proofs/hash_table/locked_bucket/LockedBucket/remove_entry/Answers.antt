use Rattle.bucket_table.proofs.Words.{refl}
use Rattle.bucket_slots.proofs.RoomAfter.{killed-slots_without}
use Rattle.bucket_table.specs.Views.LockedLaws.{locked_change}
use Rattle.bucket_table.proofs.Map.SlotSteps.{takes_only}
use Rattle.bucket_table.proofs.Map.Counted.{counted_after, len_taken}
use Rattle.bucket_table.proofs.hash_table.locked_bucket.LockedBucket.remove_entry.Goals as goal

pub invariant_of-table : goal.invariant_of-table
invariant_of-table g c =
    let o = c.args.self.now in
    let e = c.take_slot-pair.ensures in
    let x = takes_only g.met.K.Eq.laws g.H.KeyHash.hash_of g.row.TYPE o.side o.index c.table.invariant.one_map
    (rw (← c.table.view_is) at o.locked.within) c.args.at.now c.take_slot-pair.result.0 e.pair in
    counted_after c.table.invariant (rw e.arrays x.one_map) 1 0 (rw e.arrays (len_taken x.map)) c.count_taken.ensures

pub invariant_of-self : goal.invariant_of-self
invariant_of-self g c = record {
  locked = rw c.take_slot-pair.ensures.arrays
      (locked_change _ _ _ _ (rw (← c.table.view_is) at c.args.self.now.locked) (killed-slots_without _ c.args.at.now));
}

pub returns-clause-map : goal.returns-clause-map
returns-clause-map g c =
    let o = c.args.self.now in
    let e = c.take_slot-pair.ensures in
    rw (← c.table.view_is, e.arrays) (takes_only g.met.K.Eq.laws g.H.KeyHash.hash_of g.row.TYPE o.side o.index c.table.invariant.one_map
    (rw (← c.table.view_is) at o.locked.within) c.args.at.now c.take_slot-pair.result.0 e.pair).map

pub returns-clause-pair : goal.returns-clause-pair
returns-clause-pair g c = rw (← c.table.view_is) c.take_slot-pair.ensures.pair

pub returns-clause-pairs_ahead : goal.returns-clause-pairs_ahead
returns-clause-pairs_ahead g c = rw (← c.table.view_is) c.take_slot-pair.ensures.pairs_ahead

pub returns-clause-changed : goal.returns-clause-changed
returns-clause-changed g c = record {
  same_table = refl;
  same_side = refl;
  same_index = refl;
  table = rw (← c.table.view_is, c.take_slot-pair.ensures.arrays) refl;
}
