use Rattle.bucket_table.proofs.Walking.Visiting.{one_map_lent}
use Rattle.bucket_table.proofs.Words.{Current}
use Rattle.bucket_table.proofs.Map.Counted.{counted_after, len_left}
use Rattle.bucket_table.proofs.hash_table.HashTable.visit_at.Goals as goal

pub invariant_of-self : goal.invariant_of-self
invariant_of-self g c =
    let v = c.visit_at-more.ensures.visited in
    counted_after c.self.invariant
    (one_map_lent g.F.Visit.visits g.met.K.Eq.laws g.H.KeyHash.hash_of c.self.view_is c.self.invariant.one_map c.requires.locked
    c.requires.owes v) c.len_at-before.result c.len_at-after.result
    (len_left c.self.inside.arrays Current c.args.index v.0 c.visit_at-more.new.self _ _ (rw (← c.self.view_is) at c.requires.locked.within)
    v.2 c.len_at-before.ensures c.len_at-after.ensures) c.count_after-self-inside.ensures
