use Rattle.std.proofs.Common.{refl}
use Rattle.bucket_table.proofs.CallerLemmas.{own_kept}
use Rattle.collections.proofs.Orders.{prepared_leaves}
use Rattle.collections.proofs.Touching.{kept, present}
use Rattle.collections.proofs.Upserting.{vacant_put}
use Rattle.collections.proofs.hash_cache.HashCache.put.Goals as goal

pub returns-in-Ok-clause-map : goal.returns-in-Ok-clause-map
returns-in-Ok-clause-map g c =
    let eq = g.K.PartialEq.eq in
    let laws = g.met.K.Eq.laws in
    let keeps = c.fetch_place.ensures.prepared.map in
    let distinct = c.fact_sound.ensures.one_map.distinct in
    let found = rw c.new.ensures.form at c.in-Ok.ensures.found in
    let congr = laws.congr c.args.key in
    rw (← c.self.view_is) (
      (refl, refl, present eq laws c.self.inside.table c.fetch_place.new.self distinct (eq c.args.key) congr keeps _ _ _ found),
      kept eq laws c.self.inside.table c.fetch_place.new.self distinct (eq c.args.key) congr keeps,
    )

pub returns-in-Ok-clause-home : goal.returns-in-Ok-clause-home
returns-in-Ok-clause-home g c =
    rw (← c.self.view_is) (prepared_leaves _ c.self.inside.table c.fetch_place.new.self c.fetch_place.new.self
    c.fetch_place.ensures.prepared)

pub put_vacant-requires : goal.put_vacant-requires
put_vacant-requires g c =
    let e = rw c.new.ensures.form at c.in-Err.ensures in
    record {
      own_hash = own_kept g.H.KeyHash.hash_of c.args.key c.hash-hash.result 67 c.self.inside.table c.fetch_place.new.self
          c.fetch_place.ensures.prepared.map c.hash-hash.ensures;
      absent = e.absent;
      ready = λ is. rw is at e.vacancy;
    }

pub returns-clause-map : goal.returns-clause-map
returns-clause-map g c =
    let put = rw c.hash-hash.ensures at (c.put_vacant.ensures.put c.self.inside.table c.fetch_place.ensures.prepared
    c.in-Err.ensures.vacancy) in
    rw (← c.self.view_is) (vacant_put g.K.PartialEq.eq g.H.KeyHash.hash_of c.args.key c.args.value _ c.self.inside.table
    c.put_vacant.new.self c.put_vacant.result put).0

pub returns-clause-home : goal.returns-clause-home
returns-clause-home g c =
    let put = rw c.hash-hash.ensures at (c.put_vacant.ensures.put c.self.inside.table c.fetch_place.ensures.prepared
    c.in-Err.ensures.vacancy) in
    rw (← c.self.view_is) (vacant_put g.K.PartialEq.eq g.H.KeyHash.hash_of c.args.key c.args.value _ c.self.inside.table
    c.put_vacant.new.self c.put_vacant.result put).1

pub returns-clause-memory : goal.returns-clause-memory
returns-clause-memory g c =
    let put = rw c.hash-hash.ensures at (c.put_vacant.ensures.put c.self.inside.table c.fetch_place.ensures.prepared
    c.in-Err.ensures.vacancy) in
    rw (← c.self.view_is) (vacant_put g.K.PartialEq.eq g.H.KeyHash.hash_of c.args.key c.args.value _ c.self.inside.table
    c.put_vacant.new.self c.put_vacant.result put).2
