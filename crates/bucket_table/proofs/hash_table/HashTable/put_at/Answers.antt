use Rattle.bucket_table.proofs.Words.{arith, arrays_with, length-set, refl, sym, ◌∙◌}
use Rattle.bucket_table.proofs.Views.SideChanges.{buckets_on-arrays_with}
use Rattle.bucket_table.proofs.Map.Putting.{put_leaves}
use Rattle.bucket_table.proofs.Map.Counted.{counted_after, len_put}
use Rattle.bucket_table.proofs.hash_table.HashTable.put_at.Goals as goal

pub invariant_of-self : goal.invariant_of-self
invariant_of-self g c =
    let own = rw (← c.self.view_is) at c.requires.own_hash in
    let x = put_leaves g.met.K.Eq.laws g.H.KeyHash.hash_of g.row.TYPE c.args.side c.args.index c.self.invariant.one_map
    (rw (← c.self.view_is) at c.requires.locked) c.put_in-done.result c.put_in-done.new.bucket g.L.LruList.KEEPS c.args.key c.args.value
    c.args.hash
    (λ found equal. g.met.H.KeyHash.alike c.self.inside.hasher found c.args.key equal ∙ sym own) own
    (rw (← c.self.view_is) at c.requires.home) c.requires.cache (rw c.bucket_of_mut-bucket.ensures.bucket at c.put_in-done.ensures) in
    counted_after c.self.invariant (rw c.refresh_on.ensures x.one_map) 0 c.put_len.result
    (rw c.refresh_on.ensures (len_put g.row.TYPE c.self.inside.hasher c.self.inside.arrays
    (arrays_with c.self.inside.arrays c.args.side c.args.index c.put_in-done.new.bucket) g.K.PartialEq.eq c.args.key c.args.value
    c.put_in-done.result _ c.put_len.ensures x.map)) c.count_after-self-inside.ensures

pub returns-clause-map : goal.returns-clause-map
returns-clause-map g c =
    let own = rw (← c.self.view_is) at c.requires.own_hash in
    rw (c.refresh_on.ensures, ← c.self.view_is) (put_leaves g.met.K.Eq.laws g.H.KeyHash.hash_of g.row.TYPE c.args.side c.args.index
    c.self.invariant.one_map
    (rw (← c.self.view_is) at c.requires.locked) c.put_in-done.result c.put_in-done.new.bucket g.L.LruList.KEEPS c.args.key c.args.value
    c.args.hash
    (λ found equal. g.met.H.KeyHash.alike c.self.inside.hasher found c.args.key equal ∙ sym own) own
    (rw (← c.self.view_is) at c.requires.home) c.requires.cache (rw c.bucket_of_mut-bucket.ensures.bucket at c.put_in-done.ensures)).map

pub returns-clause-bucket : goal.returns-clause-bucket
returns-clause-bucket g c =
    rw (c.refresh_on.ensures, ← c.self.view_is) (
      c.put_in-done.new.bucket,
      rw c.bucket_of_mut-bucket.ensures.bucket at
          c.put_in-done.ensures,
      refl,
    )

pub refresh_on-requires : goal.refresh_on-requires
refresh_on-requires g c =
    let within = rw (← c.self.view_is) at c.requires.locked.within in
    (omega arith, rw (buckets_on-arrays_with c.self.inside.arrays c.args.side c.args.index _) (simp length-set within))
