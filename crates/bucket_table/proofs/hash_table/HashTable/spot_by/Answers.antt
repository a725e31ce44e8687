use Rattle.bucket_table.proofs.Map.KeySteps.{absent_searched}
use Rattle.bucket_table.proofs.hash_table.HashTable.spot_by.Goals as goal

pub returns-in-None-clause-found : goal.returns-in-None-clause-found
returns-in-None-clause-found g c = rw (← c.self.view_is) (rw c.in-None.ensures.fixed at c.search_on-in-None.ensures.found)

pub returns-in-None-clause-absent : goal.returns-in-None-clause-absent
returns-in-None-clause-absent g c =
    rw (← c.self.view_is) (absent_searched (g.P.KeyProbe.matches c.args.probe.now) (g.H.KeyHash.hash_of c.self.inside.hasher) c.args.hash
    c.self.inside.arrays c.search_on-in-None.result _ c.self.invariant.one_map.placed (rw (← c.self.view_is) at c.requires.own_hash)
    c.in-None.ensures.fixed c.in-None.ensures.absent c.search_on-in-None.ensures.absent)
