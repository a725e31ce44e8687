use Rattle.std.proofs.Common.{None, Ok, refl, sym}
use Rattle.collections.specs.Maps.{get}
use Rattle.collections.proofs.Collecting.{upsert_puts}
use Rattle.collections.proofs.Entries.{puts_held}
use Rattle.collections.proofs.EntryMaking.{lent_vacant, none_refused, same_as_held}
use Rattle.collections.proofs.Slots.{keeps_grows, slots_same}
use Rattle.collections.proofs.hash_map.entry.Entry.or_try_insert_with.Goals as goal

pub returns-in-Occupied : goal.returns-in-Occupied
returns-in-Occupied g c =
    let lent = c.into_mut.ensures in
    let place = c.in-Occupied.entry in
    rw c.in-Occupied.is (
      (
        refl,
        λ value is. (
          puts_held g.K.PartialEq.eq place.map.now _ (g.K.PartialEq.eq place.key) c.into_mut.result.now value _ lent.value
              (lent.written value),
          keeps_grows g.H.KeyHash.hash_of place.key place.map.now _ (slots_same place.map.now _ refl refl),
        ),
        tt,
      ),
      record {
        writes_back = tt;
        value = same_as_held _ _ c.into_mut.result.now (sym lent.value);
        absent = tt;
        refused = tt;
      },
    )

pub returns-in-Vacant : goal.returns-in-Vacant
returns-in-Vacant g c =
    let eq = g.K.PartialEq.eq in
    let lent = c.insert_tried.follows in
    let place = c.in-Vacant.entry in
    let made = c.insert_tried.ensures in
    let held = get eq place.map.now place.key in
    rw c.in-Vacant.is (
      (
        refl,
        λ value is. (
          upsert_puts eq place.map.now (lent.lender value) place.key value None (lent.holds value is).0,
          (lent.holds value is).1,
        ),
        lent.holds-at-none,
      ),
      record {
        writes_back = tt;
        value = lent_vacant (λ value. goal.F-post g c.args.make (Ok value)) held made.absent c.insert_tried.result made.value;
        absent = none_refused held made.absent c.insert_tried.result;
        refused = made.refused;
      },
    )
