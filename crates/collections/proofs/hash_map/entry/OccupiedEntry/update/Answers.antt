use Rattle.collections.proofs.Entries.{hash_stays, replaces_there, slots_there, still_there}
use Rattle.collections.proofs.hash_map.entry.OccupiedEntry.update.Goals as goal

pub invariant_of-self : goal.invariant_of-self
invariant_of-self g c =
    let eq = g.K.PartialEq.eq in
    let place = c.args.self.now in
    let matches = eq place.key in
    let after = c.change.new.arg2 in
    let lent = c.get_mut_hashed.follows in
    let found = replaces_there eq place.map.now (lent.lender after) matches c.get_mut_hashed.result c.in-Some.value after c.in-Some.is
    (lent.holds after) in
    record {
      hashed = hash_stays eq g.H.KeyHash.hash_of place.key place.hash place.map.now (lent.lender after) found.1.kept place.hashed;
      there = still_there eq place.map.now (lent.lender after) matches c.get_mut_hashed.result c.in-Some.value after c.in-Some.is
          (lent.holds after) g.met.K.Eq.laws (g.met.K.Eq.laws.congr place.key);
    }

pub returns-clause-updated : goal.returns-clause-updated
returns-clause-updated g c =
    let place = c.args.self.now in
    let after = c.change.new.arg2 in
    let lent = c.get_mut_hashed.follows in
    let found = replaces_there g.K.PartialEq.eq place.map.now (lent.lender after) (g.K.PartialEq.eq place.key)
    c.get_mut_hashed.result c.in-Some.value after c.in-Some.is (lent.holds after) in
    (found.0, c.in-Some.value, _, c.change.ensures, found.1)

pub returns-clause-slots : goal.returns-clause-slots
returns-clause-slots g c =
    let place = c.args.self.now in
    let after = c.change.new.arg2 in
    let lent = c.get_mut_hashed.follows in
    slots_there g.K.PartialEq.eq place.map.now (lent.lender after) (g.K.PartialEq.eq place.key) c.get_mut_hashed.result c.in-Some.value
    after c.in-Some.is
    (lent.holds after)
