use Rattle.bucket_table.proofs.Words.{arrays_with, refl, sym, ◌∙◌}
use Rattle.bucket_table.proofs.Map.Upserting.{upserted}
use Rattle.bucket_table.proofs.Map.Counted.{counted_after, len_upserted}
use Rattle.bucket_table.proofs.hash_table.HashTable.upsert_at.Goals as goal

pub invariant_of-self : goal.invariant_of-self
invariant_of-self g c =
    let own = rw (← c.self.view_is) at c.requires.own_hash in
    let (left, put, is) = c.upsert_home-done.ensures in
    let x = upserted g.met.K.Eq.laws g.H.KeyHash.hash_of g.row.TYPE c.args.side c.args.index c.self.invariant.one_map
    (rw (← c.self.view_is) at c.requires.locked) c.upsert_home-done.result left
    (g.G.Generation.keeps c.args.generation.now) c.args.pair.0 c.args.pair.1 c.args.hash
    (λ found equal. g.met.H.KeyHash.alike c.self.inside.hasher found c.args.pair.0 equal ∙ sym own) own
    (rw (← c.self.view_is) at c.requires.home) put in
    counted_after c.self.invariant (rw is x.one_map) 0 c.put_len.result
    (rw is (len_upserted g.row.TYPE c.self.inside.hasher c.self.inside.arrays
    (arrays_with c.self.inside.arrays c.args.side c.args.index left) g.K.PartialEq.eq c.args.pair.0 c.args.pair.1
    c.upsert_home-done.result _ c.put_len.ensures x.map)) c.count_after-self-inside.ensures

pub returns-clause-map : goal.returns-clause-map
returns-clause-map g c =
    let own = rw (← c.self.view_is) at c.requires.own_hash in
    let (left, put, is) = c.upsert_home-done.ensures in
    rw (← c.self.view_is, is) (upserted g.met.K.Eq.laws g.H.KeyHash.hash_of g.row.TYPE c.args.side c.args.index c.self.invariant.one_map
    (rw (← c.self.view_is) at c.requires.locked) c.upsert_home-done.result left
    (g.G.Generation.keeps c.args.generation.now) c.args.pair.0 c.args.pair.1 c.args.hash
    (λ found equal. g.met.H.KeyHash.alike c.self.inside.hasher found c.args.pair.0 equal ∙ sym own) own
    (rw (← c.self.view_is) at c.requires.home) put).map

pub returns-clause-bucket : goal.returns-clause-bucket
returns-clause-bucket g c =
    let (left, put, is) = c.upsert_home-done.ensures in
    rw (← c.self.view_is, is) (left, put, refl)
