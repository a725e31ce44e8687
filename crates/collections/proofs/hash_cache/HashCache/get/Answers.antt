use Rattle.std.proofs.Common.{None, Some, refl}
use Rattle.collections.proofs.Loans.{lent_value}
use Rattle.collections.proofs.Touching.{read_touched, untouched}
use Rattle.collections.proofs.hash_cache.HashCache.get.Goals as goal

pub returns-in-Some : goal.returns-in-Some
returns-in-Some g c =
    let eq = g.K.PartialEq.eq in
    let laws = g.met.K.Eq.laws in
    let t = c.self.inside.table in
    let distinct = c.fact_sound.ensures.one_map.distinct in
    let matches = g.Q.KeyForm.stands_for c.new.result.form in
    let alike = g.met.Q.KeyForm.alike c.new.result.form in
    let value = c.in-Some.value.now in
    let found = c.in-Some.ensures.found in
    let lent = c.touch_mut_by.follows in
    rw (← c.self.view_is, ← c.new.ensures.form) (
      (
        refl,
        λ _. tt,
        read_touched eq laws t (lent.lender value) distinct matches alike _ found.0 value found.1 (rw c.in-Some.is at lent.holds value),
      ),
      record { ends = tt; value = lent_value eq laws 67 t distinct matches alike (Some c.in-Some.value) found tt },
    )

pub returns-in-None : goal.returns-in-None
returns-in-None g c =
    let eq = g.K.PartialEq.eq in
    let laws = g.met.K.Eq.laws in
    let t = c.self.inside.table in
    let distinct = c.fact_sound.ensures.one_map.distinct in
    let matches = g.Q.KeyForm.stands_for c.new.result.form in
    let alike = g.met.Q.KeyForm.alike c.new.result.form in
    let lent = c.touch_mut_by.follows in
    let prepared = rw c.in-None.is at lent.holds-at-none in
    rw (← c.self.view_is, ← c.new.ensures.form) (
      (refl, λ _. tt, untouched eq laws t lent.lender-at-none distinct matches alike prepared.map _ prepared),
      record { ends = tt; value = lent_value eq laws 67 t distinct matches alike None tt c.in-None.ensures.absent },
    )
