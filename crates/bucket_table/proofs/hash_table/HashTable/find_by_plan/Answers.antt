use Rattle.bucket_table.proofs.Map.Finding.{finds}
use Rattle.bucket_table.proofs.Map.Counted.{map_kept}
use Rattle.bucket_table.proofs.hash_table.HashTable.find_by_plan.Goals as goal

pub invariant_of-self : goal.invariant_of-self
invariant_of-self g c =
    let e = c.find.ensures in
    map_kept g.K.PartialEq.eq g.met.K.Eq.laws (g.H.KeyHash.hash_of c.self.inside.hasher) c.self.inside.arrays c.find.new.self
    c.self.invariant e.kept e.placed

pub returns : goal.returns
returns g c = λ growth.
    let e = c.find.ensures in
    rw (← c.self.view_is) (finds g.row.TYPE c.args.hash _ _ c.find.new.self growth c.find.result e.kept e.locked e.home e.finds e.refused)
