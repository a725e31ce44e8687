use Rattle.std.proofs.Common.{◌≡◌, take}
use Rattle.std.specs.List.{count_by}
use Rattle.bucket_slots.specs.Marking.{MarksBy}
use Rattle.bucket_table.specs.Views.ArraysView.{tombstones_of}
use Rattle.collections.specs.Maps.{contains, map_of}
use Rattle.example_callers.specs.Without.{IsWithout}
use Rattle.example_callers.proofs.retiring.retire_keys.Given as goal

-- the keys so far are removed, and the only new tombstones have epoch 0
abbrev pub invariant-loop-key : goal.invariant-loop-key
invariant-loop-key g l = IsWithout g.K.PartialEq.eq (take l.key-index l.retired) (map_of l.fn.index) (map_of l.index)
    × MarksBy 0 (tombstones_of l.fn.index.arrays) (tombstones_of l.index.arrays)

-- the keys so far that are left are counted
abbrev pub invariant-loop-other : goal.invariant-loop-other
invariant-loop-other g l = l.left ≡ count_by (contains g.K.PartialEq.eq (map_of l.index)) (take l.other-index l.asked)
