use Rattle.collections.proofs.Collecting.{upsert_puts}
use Rattle.collections.proofs.hash_map.HashMap.put_clone.Goals as goal

pub returns-in-Ok : goal.returns-in-Ok
returns-in-Ok g c = record {
  pair = (c.in-Some.own, c.in-Some.held);
  clone = c.in-Some.ensures;
  puts = upsert_puts g.K.PartialEq.eq c.args.self.now c.upsert.new.self c.in-Some.own c.in-Some.held c.in-Ok._earlier
      c.in-Ok.ensures.map;
}
