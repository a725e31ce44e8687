use Rattle.bucket_table.proofs.Words.{rules}
use Rattle.bucket_table.proofs.Views.Laws.{unopened}
use Rattle.bucket_table.proofs.Map.Counted.{map_kept}
use Rattle.bucket_table.proofs.Map.MapKept.{state_found}
use Rattle.bucket_table.proofs.hash_table.HashTable.finish_rehash.Goals as goal

pub invariant_of-self : goal.invariant_of-self
invariant_of-self g c =
    map_kept g.K.PartialEq.eq g.met.K.Eq.laws (g.H.KeyHash.hash_of c.self.inside.hasher) c.self.inside.arrays c.finish_rehash.new.self
    c.self.invariant c.finish_rehash.ensures.kept.keeps c.finish_rehash.ensures.placed

pub returns-clause-map : goal.returns-clause-map
returns-clause-map g c = rw (← c.self.view_is) (state_found g.row.TYPE _ _ c.finish_rehash.new.self c.finish_rehash.ensures.kept.keeps)

pub finish_rehash-requires : goal.finish_rehash-requires
finish_rehash-requires g c = (
  search rules,
  (
    c.self.invariant.one_map.placed,
    unopened c.self.inside.arrays c.fact_sound.ensures c.fact_tickets.ensures
        (rw (← c.self.view_is) at c.requires.none_open),
  ),
)
