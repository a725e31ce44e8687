use Rattle.bucket_table.proofs.Words.{refl}
use Rattle.bucket_table.proofs.Map.SlotSteps.{takes}
use Rattle.bucket_table.proofs.Map.Counted.{counted_after, len_taken}
use Rattle.bucket_table.proofs.hash_table.locked_bucket.LockedBucket.remove.Goals as goal

pub invariant_of-table : goal.invariant_of-table
invariant_of-table g c =
    let o = c.args.self in
    let e = c.take_at-pair.ensures in
    let x = takes g.met.K.Eq.laws g.H.KeyHash.hash_of g.row.TYPE o.side o.index c.table.invariant.one_map
    (rw (← c.table.view_is) at o.locked.within) c.args.at.now c.take_at-pair.result e.pair _ e.kept e.placed in
    counted_after c.table.invariant x.one_map 1 0 (len_taken x.map) c.count_taken.ensures

pub returns-clause-map : goal.returns-clause-map
returns-clause-map g c =
    let o = c.args.self in
    let e = c.take_at-pair.ensures in
    rw (← c.table.view_is) (takes g.met.K.Eq.laws g.H.KeyHash.hash_of g.row.TYPE o.side o.index c.table.invariant.one_map
    (rw (← c.table.view_is) at o.locked.within) c.args.at.now c.take_at-pair.result e.pair _ e.kept e.placed).map

pub returns-clause-pair : goal.returns-clause-pair
returns-clause-pair g c = rw (← c.table.view_is) c.take_at-pair.ensures.pair

pub returns-clause-changed : goal.returns-clause-changed
returns-clause-changed g c = record { same_table = refl; arrays = rw (← c.table.view_is) c.take_at-pair.ensures.asked }

pub returns-clause-place : goal.returns-clause-place
returns-clause-place g c = rw (← c.table.view_is) c.take_at-pair.ensures.place
