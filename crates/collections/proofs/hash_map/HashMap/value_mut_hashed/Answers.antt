use Rattle.std.proofs.Common.{false, true, ◌≡◌, refl}
use Rattle.bucket_table.specs.Views.ArraysView.{pairs_of}
use Rattle.collections.proofs.InPlace.{found_is, holds_in_place, written_in_place}
use Rattle.collections.proofs.Lookups.{form_absent, form_there}
use Rattle.collections.proofs.hash_map.HashMap.value_mut_hashed.Goals as goal

pub unreachable-requires : goal.unreachable-requires
unreachable-requires g c =
    let none = form_absent (g.Q.KeyForm.stands_for c.args.key) (pairs_of c.self.inside.table.arrays)
    (rw c.new.ensures.form at c.in-None.ensures.absent) in
    let there = rw (← c.self.view_is) at c.requires.there in
    let never : false ≡ true = rw none at there in
    absurd cc

pub returns : goal.returns
returns g c =
    let eq = g.K.PartialEq.eq in
    let laws = g.met.K.Eq.laws in
    let matches = g.Q.KeyForm.stands_for c.args.key in
    let alike = g.met.Q.KeyForm.alike c.args.key in
    let t = c.self.inside.table in
    let distinct = c.fact_sound.ensures.one_map.distinct in
    let spot = c.in-Some.spot in
    let e = c.entry_mut_at.ensures in
    let stands = rw c.new.ensures.form at c.in-Some.ensures.found in
    let pair : g.row.K.Denot × g.row.V.Denot = (c.entry_mut_at.result.0.now, c.entry_mut_at.result.1.now) in
    let there = found_is matches (pairs_of t.arrays) stands.pair pair _ stands.slot e.pair stands.there in
    rw (← c.self.view_is) (
      (
        refl,
        λ value. written_in_place eq laws matches alike pair value there.1 t spot.side spot.index spot.at stands.within e.pair
            distinct,
      ),
      record {
        writes_back = tt;
        value = form_there eq laws matches alike (pairs_of t.arrays) pair distinct there.0 there.1;
        written = λ value. holds_in_place eq laws matches alike pair value there.1 83 t spot.side spot.index spot.at stands.within e.pair
            distinct (e.map value);
      },
    )
