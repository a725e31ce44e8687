use Rattle.bucket_table.proofs.Words.{refl, ◌≡◌}
use Rattle.bucket_table.proofs.Views.LockedValues.{locked_over-same}
use Rattle.bucket_table.proofs.Map.MapSteps.{wrote}
use Rattle.bucket_table.proofs.Views.SideChanges.{changeable_locked}
use Rattle.bucket_table.proofs.Map.Counted.{counted_same, len_written}
use Rattle.bucket_table.proofs.hash_table.locked_bucket.LockedBucket.entry_mut.Goals as goal

pub invariant_of-table-lent : goal.invariant_of-table-lent
invariant_of-table-lent g c w =
    let o = c.args.self.now in
    let locked = rw (← c.table.view_is) at o.locked in
    let x = wrote g.met.K.Eq.laws g.H.KeyHash.hash_of g.row.TYPE o.side o.index c.table.invariant.one_map (changeable_locked _ _ _ locked)
    (c.entry_of_mut.result.0.now, c.entry_of_mut.result.1.now) w c.args.at.now c.entry_of_mut.ensures.pair in
    counted_same c.table.invariant x.one_map (len_written x.map)

pub invariant_of-self-lent : goal.invariant_of-self-lent
invariant_of-self-lent g c w =
    let o = c.args.self.now in
    let locked = rw (← c.table.view_is) at o.locked in (
      (wrote g.met.K.Eq.laws g.H.KeyHash.hash_of g.row.TYPE o.side o.index c.table.invariant.one_map (changeable_locked _ _ _ locked)
          (c.entry_of_mut.result.0.now, c.entry_of_mut.result.1.now) w c.args.at.now c.entry_of_mut.ensures.pair).locked locked,
      tt,
    )

pub returns : goal.returns
returns g c =
    let o = c.args.self.now in
    let locked = rw (← c.table.view_is) at o.locked in
    let same : (w : g.row.V.Denot) → _ ≡ _ = λ w. rw (← c.table.view_is) refl in (
      (refl, λ w. locked_over-same c.args.self.now _ _ _ _ (same w)),
      record {
        writes_back = tt;
        pair = rw (← c.table.view_is) c.entry_of_mut.ensures.pair;
        map = λ w. rw (← c.table.view_is) (wrote g.met.K.Eq.laws g.H.KeyHash.hash_of g.row.TYPE o.side o.index c.table.invariant.one_map
            (changeable_locked _ _ _ locked) (c.entry_of_mut.result.0.now, c.entry_of_mut.result.1.now) w c.args.at.now
            c.entry_of_mut.ensures.pair).map;
      },
    )
