use Rattle.bucket_table.proofs.Words.{arith, length-set, refl}
use Rattle.bucket_table.proofs.Map.LockedSteps.{with_same}
use Rattle.bucket_table.proofs.Map.MapSteps.{evicted}
use Rattle.bucket_table.proofs.Views.SideChanges.{buckets_on-arrays_with, changeable_locked}
use Rattle.bucket_table.proofs.Map.PutSlots.{goes}
use Rattle.bucket_table.proofs.Map.Counted.{counted_after, len_evicted, len_unevicted}
use Rattle.bucket_table.proofs.hash_table.locked_bucket.LockedBucket.evict_lru_head.Goals as goal

pub invariant_of-table : goal.invariant_of-table
invariant_of-table g c =
    let o = c.args.self.now in
    let locked = rw (← c.table.view_is) at o.locked in
    let e = rw c.bucket_of_mut.ensures.bucket at c.evict_lru_head-gone.ensures in
    let x = evicted g.met.K.Eq.laws g.H.KeyHash.hash_of g.row.TYPE o.side o.index c.table.invariant.one_map (changeable_locked _ _ _ locked)
    c.evict_lru_head-gone.result c.evict_lru_head-gone.new.self e.pair e.slots e.unchanged in
    counted_after c.table.invariant (rw c.refresh_on.ensures x.one_map) _ 0
    (rw c.refresh_on.ensures (len_evicted _ _ c.evict_lru_head-gone.result _ refl x.map
    (len_unevicted c.table.inside.arrays o.side o.index _ c.evict_lru_head-gone.result e.unchanged))) c.count_removal.ensures

pub invariant_of-self : goal.invariant_of-self
invariant_of-self g c =
    let o = c.args.self.now in
    let locked = rw (← c.table.view_is) at o.locked in
    let e = rw c.bucket_of_mut.ensures.bucket at c.evict_lru_head-gone.ensures in
    record {
      locked = rw c.refresh_on.ensures ((evicted g.met.K.Eq.laws g.H.KeyHash.hash_of g.row.TYPE o.side o.index c.table.invariant.one_map
          (changeable_locked _ _ _ locked) c.evict_lru_head-gone.result c.evict_lru_head-gone.new.self e.pair e.slots
          e.unchanged).locked locked);
    }

pub returns-clause-map : goal.returns-clause-map
returns-clause-map g c =
    let o = c.args.self.now in
    let locked = rw (← c.table.view_is) at o.locked in
    let e = rw c.bucket_of_mut.ensures.bucket at c.evict_lru_head-gone.ensures in
    rw (c.refresh_on.ensures, ← c.table.view_is) (evicted g.met.K.Eq.laws g.H.KeyHash.hash_of g.row.TYPE o.side o.index
    c.table.invariant.one_map
    (changeable_locked _ _ _ locked) c.evict_lru_head-gone.result c.evict_lru_head-gone.new.self e.pair e.slots e.unchanged).map

pub returns-clause-changed : goal.returns-clause-changed
returns-clause-changed g c =
    let e = rw c.bucket_of_mut.ensures.bucket at c.evict_lru_head-gone.ensures in
    let (went, is) = goes _ c.evict_lru_head-gone.new.self c.evict_lru_head-gone.result e.none e.pair e.slots e.unchanged in
    record {
      same_table = refl;
      same_side = refl;
      same_index = refl;
      table = rw (c.refresh_on.ensures, ← c.table.view_is) (with_same c.table.inside.hasher c.table.inside.arrays _ _
          c.evict_lru_head-gone.new.self _ is);
    }

pub returns-clause-answer : goal.returns-clause-answer
returns-clause-answer g c =
    let e = rw c.bucket_of_mut.ensures.bucket at c.evict_lru_head-gone.ensures in
    rw (← c.table.view_is) (goes _ c.evict_lru_head-gone.new.self c.evict_lru_head-gone.result e.none e.pair e.slots e.unchanged).0

pub refresh_on-requires : goal.refresh_on-requires
refresh_on-requires g c =
    let o = c.args.self.now in
    let within = rw (← c.table.view_is) at o.locked.within in
    (omega arith, rw (buckets_on-arrays_with c.table.inside.arrays o.side o.index _) (simp length-set within))
