use Rattle.bucket_table.proofs.Words.{bucket_on, refl}
use Rattle.bucket_slots.proofs.RoomAfter.{killed-slots_marked}
use Rattle.bucket_table.specs.Views.LockedLaws.{locked_change}
use Rattle.bucket_table.proofs.Map.LockedSteps.{pair_there}
use Rattle.bucket_table.proofs.Map.SlotSteps.{marks_only}
use Rattle.bucket_table.proofs.Map.Counted.{counted_after, len_taken}
use Rattle.bucket_table.proofs.hash_table.locked_bucket.LockedBucket.mark_entry.Goals as goal

pub invariant_of-table : goal.invariant_of-table
invariant_of-table g c =
    let o = c.args.self.now in
    let there = pair_there (bucket_on c.table.inside.arrays o.side o.index) c.args.at.now
    (rw (← c.table.view_is) at c.requires.live_slot) in
    let x = marks_only g.met.K.Eq.laws g.H.KeyHash.hash_of g.row.TYPE o.side o.index c.table.invariant.one_map
    (rw (← c.table.view_is) at o.locked.within) c.args.at.now there.0 there.1 _ in
    counted_after c.table.invariant (rw c.mark_slot-left.ensures.arrays x.one_map) 1 0
    (rw c.mark_slot-left.ensures.arrays (len_taken x.map)) c.count_taken.ensures

pub invariant_of-self : goal.invariant_of-self
invariant_of-self g c = record {
  locked = rw c.mark_slot-left.ensures.arrays
      (locked_change _ _ _ _ (rw (← c.table.view_is) at c.args.self.now.locked) (killed-slots_marked _ c.args.at.now _));
}

pub returns-clause-map : goal.returns-clause-map
returns-clause-map g c =
    let o = c.args.self.now in
    let there = pair_there (bucket_on c.table.inside.arrays o.side o.index) c.args.at.now
    (rw (← c.table.view_is) at c.requires.live_slot) in (
      there.0,
      rw (← c.table.view_is) there.1,
      rw (← c.table.view_is, c.mark_slot-left.ensures.arrays) (marks_only g.met.K.Eq.laws g.H.KeyHash.hash_of g.row.TYPE o.side o.index
          c.table.invariant.one_map (rw (← c.table.view_is) at o.locked.within) c.args.at.now there.0 there.1 _).map,
    )

pub returns-clause-pairs_ahead : goal.returns-clause-pairs_ahead
returns-clause-pairs_ahead g c = rw (← c.table.view_is) c.mark_slot-left.ensures.pairs_ahead

pub returns-clause-changed : goal.returns-clause-changed
returns-clause-changed g c = record {
  same_table = refl;
  same_side = refl;
  same_index = refl;
  table = rw (← c.table.view_is, c.mark_slot-left.ensures.arrays) refl;
}
