use Rattle.std.proofs.Common.{refl}
use Rattle.collections.specs.EntryLoans.{still_there}
use Rattle.collections.proofs.EntryLoans.{entry_written}
use Rattle.collections.proofs.hash_map.entry.OccupiedEntry.get_mut.Goals as goal

pub invariant_of-self-lent : goal.invariant_of-self-lent
invariant_of-self-lent g c w =
    let place = c.args.self.now in
    (place.hashed, (still_there (g.K.PartialEq.eq place.key) place.map.now.entries w place.there, tt))

pub returns : goal.returns
returns g c =
    let lent = c.value_mut_hashed.ensures in
    ((refl, λ w. entry_written c.args.self.now w _ _), record { writes_back = tt; value = lent.value; written = lent.written })
