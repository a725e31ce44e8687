use Rattle.std.proofs.Common.{set, ap, ◌∙◌}
use Rattle.std.proofs.lemmas.List.{get_or_default}
use Rattle.std.proofs.lemmas.Result.{on_ok_weaker}
use Rattle.bucket_slots.specs.BucketView.{empty_bucket}
use Rattle.bucket_slots.proofs.RoomAfter.{refused_full, refused_unchanged}
use Rattle.test_layers.proofs.OneOfMany.{unchanged_by_failure}
use Rattle.test_layers.proofs.probe.insert_at.Goals as goal

pub returns-clause-place : goal.returns-clause-place
returns-clause-place g c =
    rw (c.index_mut.ensures.value ∙ get_or_default c.args.buckets.now.items c.args.index _ empty_bucket c.requires.within) at
    c.insert.ensures.place

pub returns-clause-buckets : goal.returns-clause-buckets
returns-clause-buckets g c =
    let there = c.index_mut.ensures.value ∙ get_or_default c.args.buckets.now.items c.args.index _ empty_bucket c.requires.within in
    on_ok_weaker c.insert.result (ap (set c.args.buckets.now.items c.args.index)) (rw there at c.insert.ensures.slots)

pub returns-clause-unchanged : goal.returns-clause-unchanged
returns-clause-unchanged g c =
    unchanged_by_failure c.insert.result c.args.buckets.now.items c.args.index _ _ c.index_mut.ensures.value
    (refused_unchanged c.insert.result _ _ _ c.insert.ensures.refused)

pub returns-clause-no_free_slot : goal.returns-clause-no_free_slot
returns-clause-no_free_slot g c =
    rw (c.index_mut.ensures.value ∙ get_or_default c.args.buckets.now.items c.args.index _ empty_bucket c.requires.within) at
    (refused_full c.insert.result _ _ _ c.insert.ensures.refused)
