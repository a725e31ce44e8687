use Rattle.std.proofs.Common.{ap, inl, inr, is_some, refl, sym}
use Rattle.bucket_table.proofs.CallerLemmas.{own_kept}
use Rattle.collections.proofs.Touching.{missed, shown, touched}
use Rattle.collections.proofs.hash_cache.HashCache.get_or_insert_with.Goals as goal

pub returns-in-Ok-clause-done : goal.returns-in-Ok-clause-done
returns-in-Ok-clause-done g c =
    let eq = g.K.PartialEq.eq in
    let laws = g.met.K.Eq.laws in
    let t = c.self.inside.table in
    let b = c.touch_place.new.self in
    let distinct = c.fact_sound.ensures.one_map.distinct in
    let keeps = c.touch_place.ensures.map in
    let e = rw c.new.ensures.form at c.in-Ok.ensures in
    let o = c.in-Ok.spot in
    let is = touched eq laws t b distinct (eq c.args.key) (laws.congr c.args.key) keeps _ o.side o.index o.at e.touched e.found in
    let value = shown eq laws t b distinct (eq c.args.key) (laws.congr c.args.key) keeps _ o.side o.index o.at e.touched e.found _
    c.entry_at.ensures in
    rw (← c.self.view_is) (_, c.reader.ensures, inl (sym value, refl, is))

pub make-made-requires : goal.make-made-requires
make-made-requires g c =
    let e = rw c.new.ensures.form at c.in-Err.ensures in
    let none = missed g.K.PartialEq.eq g.met.K.Eq.laws c.self.inside.table c.touch_place.new.self c.fact_sound.ensures.one_map.distinct
    (g.K.PartialEq.eq c.args.key) (g.met.K.Eq.laws.congr c.args.key) c.touch_place.ensures.map e.absent in
    (rw (← c.self.view_is) at c.requires.makes) (ap (λ value. is_some value) none)

pub put_vacant-requires : goal.put_vacant-requires
put_vacant-requires g c =
    let e = rw c.new.ensures.form at c.in-Err.ensures in
    record {
      own_hash = own_kept g.H.KeyHash.hash_of c.args.key c.hash-hash.result 67 c.self.inside.table c.touch_place.new.self
          c.touch_place.ensures.map c.hash-hash.ensures;
      absent = e.absent;
      ready = λ is. rw is at e.vacancy;
    }

pub returns-in-Ok-put_vacant-clause-done : goal.returns-in-Ok-put_vacant-clause-done
returns-in-Ok-put_vacant-clause-done g c =
    let e = c.in-Err.ensures in
    let put = c.put_vacant.ensures.put c.args.self.now (rw c.self.view_is at e.prepared) (rw c.self.view_is at e.vacancy) in
    let own = rw c.self.view_is at c.hash-hash.ensures in
    let went = rw (c.in-Ok-put_vacant.is, own) at put in
    (_, c.reader-answer.ensures, inr (c.make-made.ensures, went.0, went.1))

pub returns-in-Err-Memory-clause-done : goal.returns-in-Err-Memory-clause-done
returns-in-Err-Memory-clause-done g c =
    let e = c.in-Err.ensures in
    let put = rw (c.in-Err-Memory.is, c.in-Err-Memory.field-0-is) at (c.put_vacant.ensures.put c.self.inside.table e.prepared e.vacancy) in
    rw (← c.self.view_is) (put.0, rw put.1 c.make-made.ensures, put.2, put.3, put.4)

pub returns-in-Err-Memory-clause-memory : goal.returns-in-Err-Memory-clause-memory
returns-in-Err-Memory-clause-memory g c =
    let e = c.in-Err.ensures in
    let put = rw (c.in-Err-Memory.is, c.in-Err-Memory.field-0-is) at (c.put_vacant.ensures.put c.self.inside.table e.prepared e.vacancy) in
    rw (← c.self.view_is) put.5
