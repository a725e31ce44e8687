use Rattle.std.proofs.Common.{None}
use Rattle.collections.specs.Maps.{map_of}
use Rattle.collections.proofs.Collecting.{upsert_puts}
use Rattle.collections.proofs.Marks.{still_unmarked}
use Rattle.collections.proofs.hash_index.HashIndex.put_clone.Goals as goal

pub returns : goal.returns
returns g c = (
  record {
    pair = (c.in-Some.own, c.in-Some.held);
    clone = c.in-Some.ensures;
    puts = upsert_puts g.K.PartialEq.eq (map_of c.args.self.now) (map_of c.insert.new.self) c.in-Some.own c.in-Some.held None
        c.in-Ok.ensures.map;
  },
  still_unmarked _ _ c.in-Ok.ensures.marks,
)
