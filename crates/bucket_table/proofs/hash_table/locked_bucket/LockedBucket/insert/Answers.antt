use Rattle.bucket_table.proofs.Words.{AddsPair, OnOk, arith, length-set, refl, slots_after_insertion, ◌%◌}
use Rattle.bucket_table.specs.Map.MapState.{state_of}
use Rattle.bucket_slots.proofs.RoomAfter.{refused_unchanged}
use Rattle.bucket_table.proofs.Map.LockedChanged.{answers_placing, put_or_same}
use Rattle.bucket_table.proofs.Map.LockedSteps.{put_there}
use Rattle.bucket_table.proofs.Map.MapSteps.{Leaves, inserted_or}
use Rattle.bucket_table.proofs.Views.SideChanges.{buckets_on-arrays_with, changeable_locked}
use Rattle.bucket_table.proofs.Map.Counted.{counted_after, len_placed, len_unplaced}
use Rattle.bucket_table.proofs.hash_table.locked_bucket.LockedBucket.insert.Goals.{After-insert-placed}
use Rattle.bucket_table.proofs.hash_table.locked_bucket.LockedBucket.insert.Given as given
use Rattle.bucket_table.proofs.hash_table.locked_bucket.LockedBucket.insert.Goals as goal

-- what the insertion leaves of the table
left : (g : given.Over) (c : After-insert-placed g)
    → Leaves g.met.K.Eq.laws g.H.KeyHash.hash_of g.row.TYPE c.args.self.now.side c.args.self.now.index c.table.invariant.one_map
    (changeable_locked _ _ _ (rw (← c.table.view_is) at c.args.self.now.locked))
    (λ new. OnOk c.insert-placed.result (AddsPair (state_of g.row.TYPE (record {
      hasher = c.table.inside.hasher;
      arrays = c.table.inside.arrays;
    })) c.args.pair new)) c.insert-placed.new.self
left g c =
    let lent = c.bucket_of_mut.ensures.bucket in
    inserted_or g.met.K.Eq.laws g.H.KeyHash.hash_of g.row.TYPE c.args.self.now.side c.args.self.now.index c.table.invariant.one_map
    (changeable_locked _ _ _ (rw (← c.table.view_is) at c.args.self.now.locked))
    c.insert-placed.result c.insert-placed.new.self (g.G.Generation.keeps c.args.generation.now) c.args.pair c.args.hash
    (rw (← c.table.view_is) at c.requires.own_hash) (rw (← c.table.view_is) at c.requires.home)
    (rw (← c.table.view_is) at c.requires.key_absent) (rw lent at c.insert-placed.ensures.slots)
    (rw lent at (refused_unchanged c.insert-placed.result _ _ _ c.insert-placed.ensures.refused))

pub invariant_of-table : goal.invariant_of-table
invariant_of-table g c =
    let x = left g (goal.at.invariant_of-table g c).After-insert-placed in
    let same = rw c.bucket_of_mut.ensures.bucket at (refused_unchanged c.insert-placed.result _ _ _ c.insert-placed.ensures.refused) in
    counted_after c.table.invariant (rw c.refresh_on.ensures x.one_map) 0 _
    (rw c.refresh_on.ensures (len_placed _ _ _ c.insert-placed.result _ refl x.map
    (len_unplaced c.table.inside.arrays c.args.self.now.side c.args.self.now.index _ c.insert-placed.result same)))
    c.count_insertion.ensures

pub invariant_of-self : goal.invariant_of-self
invariant_of-self g c =
    let locked = rw (← c.table.view_is) at c.args.self.now.locked in
    record { locked = rw c.refresh_on.ensures ((left g (goal.at.invariant_of-self g c).After-insert-placed).locked locked) }

pub returns-clause-map : goal.returns-clause-map
returns-clause-map g c =
    rw (c.refresh_on.ensures, ← c.table.view_is) (left g (goal.at.returns-clause-map g c).After-insert-placed).map

pub returns-clause-changed : goal.returns-clause-changed
returns-clause-changed g c =
    let lent = c.bucket_of_mut.ensures.bucket in
    let slots = rw lent at c.insert-placed.ensures.slots in
    let same = rw lent at (refused_unchanged c.insert-placed.result _ _ _ c.insert-placed.ensures.refused) in
    record {
      same_table = refl;
      same_side = refl;
      same_index = refl;
      table = rw c.refresh_on.ensures (put_or_same c.insert-placed.result _ c.args.self.now.table.now _ _ c.insert-placed.new.self
          (λ b. slots_after_insertion g.row.TYPE (g.G.Generation.keeps c.args.generation.now) b c.args.pair (c.args.hash % 256))
          c.table.view_is slots same);
    }

pub returns-clause-answer : goal.returns-clause-answer
returns-clause-answer g c =
    let o = c.args.self.now in
    let e = rw c.bucket_of_mut.ensures.bucket at c.insert-placed.ensures in
    rw (c.refresh_on.ensures, ← c.table.view_is) (answers_placing g.row.TYPE (g.G.Generation.keeps c.args.generation.now) _
    c.insert-placed.new.self _ c.args.pair
    (c.args.hash % 256) c.insert-placed.result
    (put_there c.table.inside.arrays o.side o.index c.insert-placed.new.self (rw (← c.table.view_is) at o.locked.within))
    e.place e.names e.pair_returned e.refused)

pub refresh_on-requires : goal.refresh_on-requires
refresh_on-requires g c =
    let o = c.args.self.now in
    let within = rw (← c.table.view_is) at o.locked.within in
    (omega arith, rw (buckets_on-arrays_with c.table.inside.arrays o.side o.index _) (simp length-set within))
