use Rattle.std.proofs.Common.{refl, sym}
use Rattle.collections.proofs.Entries.{puts_held, same_as_lent}
use Rattle.collections.proofs.Slots.{keeps_grows, slots_same}
use Rattle.collections.proofs.hash_map.entry.Entry.or_insert_with.Goals as goal

pub returns-in-Occupied : goal.returns-in-Occupied
returns-in-Occupied g c =
    let lent = c.into_mut.ensures in
    let place = c.in-Occupied.entry in
    rw c.in-Occupied.is (
      (
        refl,
        λ value is. (
          puts_held g.K.PartialEq.eq place.map.now _ (g.K.PartialEq.eq place.key) c.into_mut.result.now value _ lent.value
              (lent.written value),
          keeps_grows g.H.KeyHash.hash_of place.key place.map.now _ (slots_same place.map.now _ refl refl),
        ),
        tt,
      ),
      record {
        writes_back = tt;
        value = same_as_lent (goal.F-post g c.args.make) _ c.into_mut.result.now (sym lent.value);
        refused = tt;
      },
    )
