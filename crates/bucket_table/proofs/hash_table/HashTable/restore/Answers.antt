use Rattle.bucket_table.proofs.Words.{◌∙◌}
use Rattle.bucket_table.proofs.Views.Truncated.{one_map_again}
use Rattle.bucket_table.proofs.Map.Counted.{counted_anew}
use Rattle.bucket_table.proofs.hash_table.HashTable.restore.Goals as goal

pub invariant_of-self : goal.invariant_of-self
invariant_of-self g c =
    counted_anew (one_map_again g.K.PartialEq.eq _ _ (rw c.swap_arrays.ensures.there (rw (← c.self.view_is) at c.requires.one_map)))
    (c.new-self-inside.ensures ∙ c.count.ensures.count)
