use Rattle.bucket_table.specs.Views.ArraysView.{tombstones_of}
use Rattle.collections.specs.Maps.{map_of}
use Rattle.example_callers.proofs.WithoutKeys.{marks_joined, updates_out, without_more}
use Rattle.example_callers.proofs.retiring.retire_keys.Goals as goal

pub loop-key-preserved : goal.loop-key-preserved
loop-key-preserved g c =
    let eq = g.K.PartialEq.eq in
    let laws = g.met.K.Eq.laws in
    let at = c.loop-key in
    let key = c.key-item.result in
    let new = c.remove.new.self in (
      without_more eq laws c.args.retired.now at.key-index key (map_of c.args.index.now) (map_of at.index) (map_of new)
          c.loop-key-test.true c.key-item.is at.invariant.0 (updates_out eq laws key (map_of at.index) c.remove.result (map_of new)
          c.remove.ensures.map),
      marks_joined 0 (tombstones_of c.args.index.now.arrays) (tombstones_of at.index.arrays) (tombstones_of new.arrays) at.invariant.1
          c.remove.ensures.marks,
    )
