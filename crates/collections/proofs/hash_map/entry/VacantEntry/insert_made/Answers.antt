use Rattle.std.proofs.Common.{◌≡◌, refl}
use Rattle.std.specs.Borrow.{Bor}
use Rattle.collections.proofs.EntryMaking.{made_back, made_lent}
use Rattle.collections.proofs.hash_map.entry.VacantEntry.insert_made.Goals as goal

pub returns : goal.returns
returns g c =
    let Makes : g.row.V.Denot → Type 0 =
    λ value. (key : Bor g.row.K.Denot) × (key.now ≡ c.args.self.key) × goal.F-post g c.args.make key value in
    let made : Makes c.make-value.result = (c.key.result, c.key.ensures, c.make-value.ensures) in
    let lent = c.insert.follows in (
      (refl, lent.holds, lent.holds-at-none),
      record {
        writes_back = tt;
        absent = c.args.self.absent;
        value = made_lent Makes c.make-value.result made c.insert.result c.insert.ensures.value;
        pair_returned = made_back Makes c.make-value.result made c.insert.result c.args.self.key c.insert.ensures.pair_returned;
      },
    )
