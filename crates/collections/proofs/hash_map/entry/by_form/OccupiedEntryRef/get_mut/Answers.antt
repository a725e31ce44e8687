use Rattle.std.proofs.Common.{refl}
use Rattle.collections.specs.EntryLoans.{still_there}
use Rattle.collections.proofs.EntryLoans.{ref_written}
use Rattle.collections.proofs.hash_map.entry.by_form.OccupiedEntryRef.get_mut.Goals as goal

pub invariant_of-self-lent : goal.invariant_of-self-lent
invariant_of-self-lent g c w =
    let place = c.args.self.now in
    (place.hashed, (still_there (g.Q.KeyForm.stands_for place.form) place.map.now.entries w place.there, tt))

pub returns : goal.returns
returns g c =
    let lent = c.value_mut_hashed.ensures in
    ((refl, λ w. ref_written c.args.self.now w _ _), record { writes_back = tt; value = lent.value; written = lent.written })
