use Rattle.bucket_table.proofs.Words.{refl}
use Rattle.bucket_table.specs.Map.MapState.{state_of}
use Rattle.bucket_table.proofs.Map.KeySteps.{stands_touched}
use Rattle.bucket_table.proofs.Scripts.CallSteps.{then_kept}
use Rattle.bucket_table.proofs.Map.SlotSteps.{touches}
use Rattle.bucket_table.proofs.Map.Counted.{counted_same, len_kept}
use Rattle.bucket_table.proofs.hash_table.HashTable.touch_place.Goals as goal

pub invariant_of-self : goal.invariant_of-self
invariant_of-self g c =
    let o = c.in-Ok.spot in
    let stands = rw (← c.self.view_is) at c.in-Ok.ensures.found in
    let x = touches g.met.K.Eq.laws g.H.KeyHash.hash_of g.row.TYPE o.side o.index c.self.invariant.one_map stands.within o.at
    stands.pair stands.slot g.L.LruList.KEEPS in
    rw c.touch_slot.ensures (counted_same c.self.invariant x.one_map (len_kept _ _ x.map.pairs))

pub returns-in-Ok-clause-map : goal.returns-in-Ok-clause-map
returns-in-Ok-clause-map g c =
    let o = c.in-Ok.spot in
    let stands = rw (← c.self.view_is) at c.in-Ok.ensures.found in
    let keeps = rw (← c.self.view_is) at c.fetch_place.ensures.prepared.map in
    then_kept (state_of g.row.TYPE c.args.self.now) _ _ keeps (rw c.touch_slot.ensures (touches g.met.K.Eq.laws g.H.KeyHash.hash_of
    g.row.TYPE o.side o.index c.self.invariant.one_map stands.within o.at stands.pair stands.slot g.L.LruList.KEEPS).map)

pub returns-in-Ok-clause-touched : goal.returns-in-Ok-clause-touched
returns-in-Ok-clause-touched g c = record {
  between = c.fetch_place.new.self;
  prepared = c.fetch_place.ensures.prepared;
  done = (c.in-Ok.ensures.found, rw (← c.self.view_is, c.touch_slot.ensures) refl);
}

pub returns-in-Ok-clause-found : goal.returns-in-Ok-clause-found
returns-in-Ok-clause-found g c =
    let o = c.in-Ok.spot in
    let stands = rw (← c.self.view_is) at c.in-Ok.ensures.found in
    let moved = (touches g.met.K.Eq.laws g.H.KeyHash.hash_of g.row.TYPE o.side o.index c.self.invariant.one_map stands.within o.at
    stands.pair
    stands.slot g.L.LruList.KEEPS).map in
    rw c.touch_slot.ensures (stands_touched _ c.self.inside.arrays o.side o.index o.at g.L.LruList.KEEPS stands moved.pairs)
