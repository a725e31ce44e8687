use Rattle.std.proofs.Common.{false, refl}
use Rattle.collections.proofs.Loans.{lent_none, lent_replaces, lent_value}
use Rattle.collections.proofs.hash_map.HashMap.get_mut_hashed.Goals as goal

pub returns : goal.returns
returns g c =
    let eq = g.K.PartialEq.eq in
    let laws = g.met.K.Eq.laws in
    let t = c.self.inside.table in
    let distinct = c.fact_sound.ensures.one_map.distinct in
    let matches = g.Q.KeyForm.stands_for c.new.result.form in
    let alike = g.met.Q.KeyForm.alike c.new.result.form in
    let loan = c.get_mut_by.result in
    let lent = c.get_mut_by.follows in
    let found = c.get_mut_by.ensures in
    rw (← c.self.view_is, ← c.new.ensures.form) (
      (
        refl,
        λ value. lent_replaces eq laws 83 t distinct matches alike false _ loan (lent.lender value) value (lent.holds value),
        lent_none eq laws 83 t distinct matches alike _ loan lent.lender-at-none lent.holds-at-none found.absent,
      ),
      record { writes_back = tt; value = lent_value eq laws 83 t distinct matches alike loan found.found found.absent },
    )
