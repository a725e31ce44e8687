use Rattle.std.proofs.Common.{◌≡◌, Option, ap, inl, refl, subst, sym}
use Rattle.std.specs.Prelude.{IfOk, unwrap_or}
use Rattle.collections.specs.Maps.{get_by}
use Rattle.collections.proofs.EntryMaking.{back_new, puts_new, puts_over}
use Rattle.collections.proofs.Slots.{slots_same}
use Rattle.collections.proofs.hash_map.entry.by_form.EntryRef.or_insert.Goals as goal

pub returns-in-Occupied : goal.returns-in-Occupied
returns-in-Occupied g c =
    let lent = c.into_mut.ensures in
    let place = c.in-Occupied.entry in
    rw c.in-Occupied.is (
      (
        refl,
        λ value is. (
          puts_over g.K.PartialEq.eq place.map.now (g.Q.KeyForm.stands_for place.form) value _ c.into_mut.result.now lent.value
              (lent.written value),
          inl (slots_same place.map.now _ refl refl),
        ),
        tt,
      ),
      record {
        writes_back = tt;
        value = ap (λ held. unwrap_or held c.args.default) (sym lent.value);
        refused = tt;
      },
    )

pub returns-in-Vacant : goal.returns-in-Vacant
returns-in-Vacant g c =
    let default = c.args.default in
    let lent = c.insert.follows in
    let place = c.in-Vacant.entry in
    let matches = g.Q.KeyForm.stands_for place.form in
    let held = get_by matches place.map.now in
    rw c.in-Vacant.is (
      (
        refl,
        λ value is. (
          puts_new g.K.PartialEq.eq place.map.now matches value (lent.lender value) place.absent (lent.holds value is).0,
          (lent.holds value is).1,
        ),
        lent.holds-at-none,
      ),
      record {
        writes_back = tt;
        value = subst (λ (o : Option _). IfOk c.insert.result (λ lent. lent.now ≡ unwrap_or o default)) (sym place.absent)
            c.insert.ensures.value;
        refused = back_new (λ value. value ≡ default) default refl held place.absent c.insert.result c.insert.ensures.value_returned;
      },
    )
