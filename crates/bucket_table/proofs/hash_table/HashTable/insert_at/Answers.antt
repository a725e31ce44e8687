use Rattle.bucket_table.proofs.Words.{arrays_with, refl, slots_after_insertion, sym, ◌%◌, ◌∙◌}
use Rattle.bucket_table.proofs.Map.Inserting.{inserted_where_absent}
use Rattle.bucket_table.proofs.Map.LockedSteps.{put_if_ok, same_if_err}
use Rattle.bucket_table.proofs.Map.Counted.{counted_after, len_inserted}
use Rattle.bucket_table.proofs.hash_table.HashTable.insert_at.Goals as goal

pub invariant_of-self : goal.invariant_of-self
invariant_of-self g c =
    let (left, answer, put, unchanged, is) = c.insert_home-done.ensures in
    let x = inserted_where_absent g.met.K.Eq.laws g.H.KeyHash.hash_of g.row.TYPE c.args.side c.args.index c.self.invariant.one_map
    (rw (← c.self.view_is) at c.requires.locked) c.insert_home-done.result left
    (g.G.Generation.keeps c.args.generation.now) c.args.pair.0 c.args.pair.1 c.args.hash
    (λ own equal. g.met.H.KeyHash.alike c.self.inside.hasher own c.args.pair.0 equal ∙ sym (rw (← c.self.view_is) at c.requires.own_hash))
    (rw (← c.self.view_is) at c.requires.own_hash) (rw (← c.self.view_is) at c.requires.home) answer put unchanged in
    counted_after c.self.invariant (rw is x.one_map) 0 _
    (rw is (len_inserted g.row.TYPE c.self.inside.hasher c.self.inside.arrays
    (arrays_with c.self.inside.arrays c.args.side c.args.index left) g.K.PartialEq.eq c.args.pair.0 c.args.pair.1
    c.insert_home-done.result _ refl x.map)) c.count_insertion.ensures

pub returns-clause-map : goal.returns-clause-map
returns-clause-map g c =
    let (left, answer, put, unchanged, is) = c.insert_home-done.ensures in
    let x = inserted_where_absent g.met.K.Eq.laws g.H.KeyHash.hash_of g.row.TYPE c.args.side c.args.index c.self.invariant.one_map
    (rw (← c.self.view_is) at c.requires.locked) c.insert_home-done.result left
    (g.G.Generation.keeps c.args.generation.now) c.args.pair.0 c.args.pair.1 c.args.hash
    (λ own equal. g.met.H.KeyHash.alike c.self.inside.hasher own c.args.pair.0 equal ∙ sym (rw (← c.self.view_is) at c.requires.own_hash))
    (rw (← c.self.view_is) at c.requires.own_hash) (rw (← c.self.view_is) at c.requires.home) answer put unchanged in
    rw (← c.self.view_is, is) x.map

pub returns-clause-put : goal.returns-clause-put
returns-clause-put g c =
    let (left, answer, put, unchanged, is) = c.insert_home-done.ensures in
    rw is (put_if_ok c.insert_home-done.result _ c.args.self.now _ _ left
    (λ b. slots_after_insertion g.row.TYPE (g.G.Generation.keeps c.args.generation.now) b c.args.pair (c.args.hash % 256))
    c.self.view_is put)

pub returns-clause-unchanged : goal.returns-clause-unchanged
returns-clause-unchanged g c =
    let (left, answer, put, unchanged, is) = c.insert_home-done.ensures in
    rw is (same_if_err c.insert_home-done.result c.self.inside.hasher c.self.inside.arrays c.args.self.now _ _ left c.self.view_is
    unchanged)

pub returns-clause-answer : goal.returns-clause-answer
returns-clause-answer g c =
    let (left, answer, put, unchanged, is) = c.insert_home-done.ensures in
    rw (← c.self.view_is) answer
