use Rattle.bucket_table.proofs.Words.{Current, refl, sym, ◌%◌}
use Rattle.bucket_table.proofs.Map.KeySteps.{stands_found}
use Rattle.bucket_table.proofs.Map.LookUps.{searched_absent}
use Rattle.bucket_table.proofs.Resize.Growing.{locked_ready}
use Rattle.bucket_table.proofs.hash_table.HashTable.spot_at_home.Goals as goal

pub returns-in-None-clause-absent : goal.returns-in-None-clause-absent
returns-in-None-clause-absent g c =
    let home = c.home-index.ensures in
    let none = rw c.array_of.ensures at c.in-None.ensures.place in
    rw (← c.self.view_is) (searched_absent (g.P.KeyProbe.matches c.args.probe.now) c.args.hash (g.H.KeyHash.hash_of c.self.inside.hasher)
    (rw (← c.self.view_is) at c.requires.own_hash) c.self.inside.arrays Current _ c.home-index.result
    c.self.invariant.one_map.placed (locked_ready c.args.hash c.home-index.result c.self.inside.arrays (rw (← c.self.view_is) at
    c.requires.ready)
    home) home refl (sym none))

pub returns-in-Some-clause-found : goal.returns-in-Some-clause-found
returns-in-Some-clause-found g c =
    let found = rw c.array_of.ensures at c.in-Some.ensures.place in
    rw (← c.self.view_is) (stands_found (g.P.KeyProbe.matches c.args.probe.now) c.self.inside.arrays Current c.self.inside.arrays.current
    _ (c.args.hash % 256) c.home-index.result _ refl refl c.home-index.ensures.within (sym found))
