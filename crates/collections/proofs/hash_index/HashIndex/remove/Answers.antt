use Rattle.collections.specs.Maps.{map_of}
use Rattle.collections.proofs.IndexSteps.{takes_out}
use Rattle.collections.proofs.hash_index.HashIndex.remove.Goals as goal

pub returns-clause-map : goal.returns-clause-map
returns-clause-map g c = rw c.is_some.ensures (takes_out g.K.PartialEq.eq _ (g.Q.KeyForm.stands_for c.args.key) (map_of c.args.self.now)
    (map_of c.remove_with-removed.new.self) c.remove_with-removed.result c.remove_with-removed.ensures.map)

pub returns-clause-marked : goal.returns-clause-marked
returns-clause-marked g c = rw c.is_some.ensures c.remove_with-removed.ensures.marked

pub returns-clause-slots : goal.returns-clause-slots
returns-clause-slots g c = rw c.is_some.ensures c.remove_with-removed.ensures.slots
