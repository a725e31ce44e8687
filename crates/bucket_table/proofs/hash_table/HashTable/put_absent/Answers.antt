use Rattle.bucket_table.proofs.Words.{Ok, TableView, arith, arrays_with, length-set, refl, subst}
use Rattle.bucket_table.specs.Map.MapState.{state_of}
use Rattle.bucket_table.specs.Map.Putting.{Puts}
use Rattle.bucket_table.proofs.Views.SideChanges.{buckets_on-arrays_with}
use Rattle.bucket_table.proofs.Map.Putting.{absent_put}
use Rattle.bucket_table.proofs.Map.Counted.{counted_after, len_put_absent}
use Rattle.bucket_table.proofs.hash_table.HashTable.put_absent.Goals as goal

pub bucket_of_mut-bucket-requires : goal.bucket_of_mut-bucket-requires
bucket_of_mut-bucket-requires g c = (omega arith, (c.fact_room_of.ensures, rw (← c.self.view_is) at c.requires.locked.within))

pub invariant_of-self : goal.invariant_of-self
invariant_of-self g c =
    let e = rw c.bucket_of_mut-bucket.ensures.bucket at c.put_absent_in-gone.ensures in
    let x = absent_put g.met.K.Eq.laws g.H.KeyHash.hash_of g.row.TYPE c.args.side c.args.index c.self.invariant.one_map
    (rw (← c.self.view_is) at c.requires.locked) c.put_absent_in-gone.result c.put_absent_in-gone.new.bucket g.L.LruList.KEEPS c.args.key
    c.args.value c.args.hash (rw (← c.self.view_is) at c.requires.own_hash) (rw (← c.self.view_is) at c.requires.home)
    (rw (← c.self.view_is) at c.requires.absent) c.requires.cache e.goes e.put in
    counted_after c.self.invariant (rw c.refresh_on.ensures x.one_map) c.some_len.result 1
    (rw c.refresh_on.ensures (len_put_absent g.row.TYPE c.self.inside.hasher c.self.inside.arrays
    (arrays_with c.self.inside.arrays c.args.side c.args.index c.put_absent_in-gone.new.bucket) g.K.PartialEq.eq c.args.key c.args.value
    c.put_absent_in-gone.result _ c.some_len.ensures x.map)) c.count_after-self-inside.ensures

pub returns-clause-map : goal.returns-clause-map
returns-clause-map g c =
    let e = rw c.bucket_of_mut-bucket.ensures.bucket at c.put_absent_in-gone.ensures in
    rw c.refresh_on.ensures (subst (λ (t : TableView g.row.K.Denot g.row.V.Denot g.row.H.Denot). Puts g.K.PartialEq.eq c.args.key
    c.args.value (state_of g.row.TYPE t) (Ok c.put_absent_in-gone.result) (state_of g.row.TYPE (record {
      hasher = c.self.inside.hasher;
      arrays = arrays_with c.self.inside.arrays c.args.side c.args.index c.put_absent_in-gone.new.bucket;
    }))) c.self.view_is (absent_put g.met.K.Eq.laws g.H.KeyHash.hash_of g.row.TYPE c.args.side c.args.index c.self.invariant.one_map
    (rw (← c.self.view_is) at c.requires.locked) c.put_absent_in-gone.result c.put_absent_in-gone.new.bucket g.L.LruList.KEEPS c.args.key
    c.args.value c.args.hash (rw (← c.self.view_is) at c.requires.own_hash) (rw (← c.self.view_is) at c.requires.home)
    (rw (← c.self.view_is) at c.requires.absent) c.requires.cache e.goes e.put).map)

pub returns-clause-goes : goal.returns-clause-goes
returns-clause-goes g c = rw (← c.self.view_is, ← c.bucket_of_mut-bucket.ensures.bucket) c.put_absent_in-gone.ensures.goes

pub returns-clause-put : goal.returns-clause-put
returns-clause-put g c =
    rw (c.refresh_on.ensures, ← c.self.view_is, ← c.bucket_of_mut-bucket.ensures.bucket, ← c.put_absent_in-gone.ensures.put) refl

pub refresh_on-requires : goal.refresh_on-requires
refresh_on-requires g c =
    let within = rw (← c.self.view_is) at c.requires.locked.within in
    (omega arith, rw (buckets_on-arrays_with c.self.inside.arrays c.args.side c.args.index _) (simp length-set within))
