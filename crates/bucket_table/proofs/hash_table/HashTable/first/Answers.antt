use Rattle.bucket_table.proofs.Words.{arith}
use Rattle.bucket_table.proofs.Map.Counted.{map_kept}
use Rattle.bucket_table.proofs.Walking.TableCursor.{nothing_there, sets_out}
use Rattle.bucket_table.proofs.hash_table.HashTable.first.Goals as goal

pub invariant_of-self : goal.invariant_of-self
invariant_of-self g c =
    map_kept g.K.PartialEq.eq g.met.K.Eq.laws (g.H.KeyHash.hash_of c.self.inside.hasher) c.self.inside.arrays c.first_from.new.self
    c.self.invariant c.first_from.ensures.kept.keeps c.first_from.ensures.placed

pub returns-clause-sets_out : goal.returns-clause-sets_out
returns-clause-sets_out g c =
    rw (← c.self.view_is) (sets_out g.row.TYPE g.H.KeyHash.hash_of _ _ _ c.first_from.result c.first_from.new.self c.first_from.new.at
    (omega arith) c.first_from.ensures.kept c.first_from.ensures.found
    (c.first_from.ensures.passes 0 (λ wide. (omega arith, omega (arith, wide)))))

pub returns-clause-none : goal.returns-clause-none
returns-clause-none g c = rw (← c.self.view_is) (nothing_there _ _ _ c.first_from.result c.first_from.new.self c.first_from.new.at
    (omega arith) c.first_from.ensures.kept c.first_from.ensures.found)
