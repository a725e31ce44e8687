use Rattle.bucket_table.proofs.Words.{refl}
use Rattle.bucket_table.proofs.hash_table.HashTable.get_mut.Goals as goal

pub returns : goal.returns
returns g c =
    let lent = c.get_mut_by.follows in
    let e = c.get_mut_by.ensures in
    rw (← c.hash-hash.ensures, ← c.new.ensures.key) (
      (refl, lent.holds, lent.holds-at-none),
      record { writes_back = tt; found = e.found; absent = e.absent },
    )
