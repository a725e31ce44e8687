use Rattle.collections.proofs.SetCollecting.{keys_into_new}
use Rattle.collections.proofs.hash_set.collect.HashSetDefaultHashFromIterator.from_iter.Goals as goal

pub returns-in-Ok : goal.returns-in-Ok
returns-in-Ok g c =
    let made = c.new-set.ensures in
    let put = c.in-Ok.ensures in
    let puts = keys_into_new g.K.PartialEq.eq g.met.K.Eq.laws c.new-set.result c.try_extend.new.self put.0 made.empty
    made.minimum made.maximum made.slots made.buckets put.2 in
    record {
      ran = (
        c.into_iter-keys.result,
        put.0,
        c.into_iter-keys.ensures.into_iter_gives,
        (put.1.0, put.1.1, λ _. (_, put.1.2)),
        puts,
      );
    }
