use Rattle.std.proofs.Common.{refl, true}
use Rattle.collections.proofs.Loans.{lent_value}
use Rattle.collections.proofs.Writing.{lent_unwritten, lent_written}
use Rattle.collections.proofs.hash_cache.HashCache.get_mut.Goals as goal

pub returns : goal.returns
returns g c =
    let eq = g.K.PartialEq.eq in
    let laws = g.met.K.Eq.laws in
    let t = c.self.inside.table in
    let distinct = c.fact_sound.ensures.one_map.distinct in
    let matches = g.Q.KeyForm.stands_for c.new.result.form in
    let alike = g.met.Q.KeyForm.alike c.new.result.form in
    let loan = c.touch_mut_by.result in
    let lent = c.touch_mut_by.follows in
    let found = c.touch_mut_by.ensures in
    rw (← c.self.view_is, ← c.new.ensures.form) (
      (
        refl,
        λ value. lent_written eq laws t (lent.lender value) distinct matches alike _ true loan value (lent.holds value),
        lent_unwritten eq laws t lent.lender-at-none distinct matches alike _ true loan lent.holds-at-none found.absent,
      ),
      record { writes_back = tt; value = lent_value eq laws 67 t distinct matches alike loan found.found found.absent },
    )
