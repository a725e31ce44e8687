use Rattle.bucket_table.proofs.Words.{refl}
use Rattle.bucket_table.proofs.arrays.Arrays.search_and_take.Goals as goal

pub returns-in-Some-clause-taken : goal.returns-in-Some-clause-taken
returns-in-Some-clause-taken g c =
    let taken = c.take_at.ensures in
    rw (← c.in-Some.ensures.side) (record {
      index = c.in-Some.spot.index;
      at = c.in-Some.spot.at;
      stands = c.in-Some.ensures.found;
      taken = taken.pair;
      asked = taken.asked;
      kept = taken.kept;
      placed = taken.placed;
    })

pub returns-in-None-clause-taken : goal.returns-in-None-clause-taken
returns-in-None-clause-taken g c = (refl, c.in-None.ensures.absent)
