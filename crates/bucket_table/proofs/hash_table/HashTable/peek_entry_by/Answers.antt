use Rattle.bucket_table.proofs.Map.LookUps.{looked_up}
use Rattle.bucket_table.proofs.hash_table.HashTable.peek_entry_by.Goals as goal

pub returns-clause-found : goal.returns-clause-found
returns-clause-found g c =
    rw (← c.self.view_is) (looked_up g.K.PartialEq.eq _ (g.P.KeyProbe.matches c.args.probe.now) c.args.hash c.peek_by.result _
    c.self.invariant.one_map (rw (← c.self.view_is) at c.requires.own_hash) c.peek_by.ensures.first).0

pub returns-clause-absent : goal.returns-clause-absent
returns-clause-absent g c =
    rw (← c.self.view_is) (looked_up g.K.PartialEq.eq _ (g.P.KeyProbe.matches c.args.probe.now) c.args.hash c.peek_by.result _
    c.self.invariant.one_map (rw (← c.self.view_is) at c.requires.own_hash) c.peek_by.ensures.first).1
