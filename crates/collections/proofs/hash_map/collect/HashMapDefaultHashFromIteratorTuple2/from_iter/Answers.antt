use Rattle.collections.proofs.Collecting.{put_into_new}
use Rattle.collections.proofs.hash_map.collect.HashMapDefaultHashFromIteratorTuple2.from_iter.Goals as goal

pub returns-in-Ok : goal.returns-in-Ok
returns-in-Ok g c =
    let made = c.new-map.ensures in
    let put = c.in-Ok.ensures in
    let puts = put_into_new g.K.PartialEq.eq c.new-map.result c.try_extend.new.self put.0 made.empty made.minimum
    made.maximum made.slots made.buckets put.2 in
    record {
      ran = (
        c.into_iter-pairs.result,
        put.0,
        c.into_iter-pairs.ensures.into_iter_gives,
        (put.1.0, put.1.1, λ _. (_, put.1.2)),
        puts,
      );
    }
