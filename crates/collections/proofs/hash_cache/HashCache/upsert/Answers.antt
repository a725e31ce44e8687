use Rattle.bucket_table.proofs.CallerLemmas.{own_kept}
use Rattle.collections.proofs.Touching.{replaced, written_there}
use Rattle.collections.proofs.hash_cache.HashCache.upsert.Goals as goal

pub returns-in-Ok-clause-map : goal.returns-in-Ok-clause-map
returns-in-Ok-clause-map g c =
    let eq = g.K.PartialEq.eq in
    let laws = g.met.K.Eq.laws in
    let t = c.self.inside.table in
    let b = c.touch_place.new.self in
    let distinct = c.fact_sound.ensures.one_map.distinct in
    let keeps = c.touch_place.ensures.map in
    let e = rw c.new.ensures.form at c.in-Ok.ensures in
    let o = c.in-Ok.spot in
    let (own, here, changed) = c.swap_at.ensures.map in
    rw (← c.self.view_is) (
      own,
      replaced eq laws t b distinct (eq c.args.key) (laws.congr c.args.key) keeps _ o.side o.index o.at e.touched e.found
          (own, c.swap_at.result) here c.args.value c.swap_at.new.self changed,
    )

pub returns-in-Ok-clause-order : goal.returns-in-Ok-clause-order
returns-in-Ok-clause-order g c =
    let eq = g.K.PartialEq.eq in
    let laws = g.met.K.Eq.laws in
    let t = c.self.inside.table in
    let b = c.touch_place.new.self in
    let distinct = c.fact_sound.ensures.one_map.distinct in
    let keeps = c.touch_place.ensures.map in
    let e = rw c.new.ensures.form at c.in-Ok.ensures in
    let o = c.in-Ok.spot in
    rw (← c.self.view_is, c.swap_at.ensures.table) (written_there eq laws t b distinct (eq c.args.key) (laws.congr c.args.key)
    keeps _ o.side
    o.index o.at e.touched e.found c.args.value)

pub put_vacant-requires : goal.put_vacant-requires
put_vacant-requires g c =
    let e = rw c.new.ensures.form at c.in-Err.ensures in
    record {
      own_hash = own_kept g.H.KeyHash.hash_of c.args.key c.hash-hash.result 67 c.self.inside.table c.touch_place.new.self
          c.touch_place.ensures.map c.hash-hash.ensures;
      absent = e.absent;
      ready = λ is. rw is at e.vacancy;
    }

pub returns-in-Ok-None-clause-map : goal.returns-in-Ok-None-clause-map
returns-in-Ok-None-clause-map g c =
    let e = c.in-Err.ensures in
    let put = rw (c.in-Ok-None.is, c.in-Ok-None.field-0-is) at (c.put_vacant.ensures.put c.self.inside.table e.prepared e.vacancy) in
    rw (← c.self.view_is) put.0

pub returns-in-Ok-None-clause-order : goal.returns-in-Ok-None-clause-order
returns-in-Ok-None-clause-order g c =
    let e = c.in-Err.ensures in
    let put = rw (c.in-Ok-None.is, c.in-Ok-None.field-0-is, c.hash-hash.ensures) at
    (c.put_vacant.ensures.put c.self.inside.table e.prepared e.vacancy) in
    rw (← c.self.view_is) put.1

pub returns-in-Ok-Some-clause-map : goal.returns-in-Ok-Some-clause-map
returns-in-Ok-Some-clause-map g c =
    let e = c.in-Err.ensures in
    let put = rw (c.in-Ok-Some.is, c.in-Ok-Some.field-0-is) at (c.put_vacant.ensures.put c.self.inside.table e.prepared e.vacancy) in
    rw (← c.self.view_is) put.0

pub returns-in-Ok-Some-clause-order : goal.returns-in-Ok-Some-clause-order
returns-in-Ok-Some-clause-order g c =
    let e = c.in-Err.ensures in
    let put = rw (c.in-Ok-Some.is, c.in-Ok-Some.field-0-is, c.hash-hash.ensures) at
    (c.put_vacant.ensures.put c.self.inside.table e.prepared e.vacancy) in
    rw (← c.self.view_is) put.1

pub returns-in-Err-Memory : goal.returns-in-Err-Memory
returns-in-Err-Memory g c =
    let e = c.in-Err.ensures in
    let put = rw (c.in-Err-Memory.is, c.in-Err-Memory.field-0-is) at (c.put_vacant.ensures.put c.self.inside.table e.prepared e.vacancy) in
    rw (← c.self.view_is) (record {
      map = ((λ i. (put.0 i, put.1 i)), put.2, put.3);
      order = put.4;
      memory = put.5;
    })
