use Rattle.bucket_table.proofs.Words.{refl}
use Rattle.bucket_table.proofs.hash_table.HashTable.not_inserted.Goals as goal
use Rattle.bucket_table.proofs.hash_table.HashTable.not_inserted.Goals.{in-None, in-Some}

pub returns : goal.returns
returns g c = elim c.match-spot_of.branch [
  | in-Some w ↦ rw w.result-is (refl, refl, (w.in-Some.ensures.found.pair, w.in-Some.ensures.found.there))
  | in-None w ↦ rw w.result-is (refl, refl, w.in-None.ensures.absent)
]
