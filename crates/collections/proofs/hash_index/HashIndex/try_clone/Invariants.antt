-- Clones of the pairs so far are inserted, and no tombstone is left.
use Rattle.std.proofs.Common.{◌≡◌, [], length}
use Rattle.bucket_table.specs.Views.ArraysView.{tombstones_of}
use Rattle.collections.specs.Maps.{map_of}
use Rattle.collections.proofs.Cloning.{IsCloning}
use Rattle.collections.proofs.hash_index.HashIndex.try_clone.Given as goal

abbrev pub invariant-loop-pair : goal.invariant-loop-pair
invariant-loop-pair g l = IsCloning g.K.PartialEq.eq g.K.Clone.is_clone g.V.Clone.is_clone
    (record (map_of l.fn.self) { minimum = l.initial.copy.arrays.minimum }) (map_of l.initial.copy) (map_of l.copy) l.pairs
    × (tombstones_of l.copy.arrays ≡ [])

abbrev pub decreases-loop-pair : goal.decreases-loop-pair
decreases-loop-pair g l = length l.pairs
