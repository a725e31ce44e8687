use Rattle.bucket_table.proofs.Words.{bucket_on, refl}
use Rattle.bucket_table.proofs.Map.LockedSteps.{pair_there}
use Rattle.bucket_table.proofs.Map.SlotSteps.{marks}
use Rattle.bucket_table.proofs.Map.Counted.{counted_after, len_taken}
use Rattle.bucket_table.proofs.hash_table.locked_bucket.LockedBucket.mark_removed.Goals as goal

pub invariant_of-table : goal.invariant_of-table
invariant_of-table g c =
    let o = c.args.self in
    let e = c.mark_at.ensures in
    let there = pair_there (bucket_on c.table.inside.arrays o.side o.index) c.args.at.now
    (rw (← c.table.view_is) at c.requires.live_slot) in
    let x = marks g.met.K.Eq.laws g.H.KeyHash.hash_of g.row.TYPE o.side o.index c.table.invariant.one_map
    (rw (← c.table.view_is) at o.locked.within) c.args.at.now there.0 there.1 _ _ e.kept e.placed in
    counted_after c.table.invariant x.one_map 1 0 (len_taken x.map) c.count_taken.ensures

pub returns-clause-map : goal.returns-clause-map
returns-clause-map g c =
    let o = c.args.self in
    let e = c.mark_at.ensures in
    let there = pair_there (bucket_on c.table.inside.arrays o.side o.index) c.args.at.now
    (rw (← c.table.view_is) at c.requires.live_slot) in (
      there.0,
      rw (← c.table.view_is) there.1,
      rw (← c.table.view_is) (marks g.met.K.Eq.laws g.H.KeyHash.hash_of g.row.TYPE o.side o.index c.table.invariant.one_map
          (rw (← c.table.view_is) at o.locked.within) c.args.at.now there.0 there.1 _ _ e.kept e.placed).map,
    )

pub returns-clause-changed : goal.returns-clause-changed
returns-clause-changed g c = record { same_table = refl; arrays = rw (← c.table.view_is) c.mark_at.ensures.asked }
