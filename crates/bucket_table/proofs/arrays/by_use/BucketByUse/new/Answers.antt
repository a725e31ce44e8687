use Rattle.bucket_table.proofs.Walking.ByUse.{left_at_first}
use Rattle.bucket_table.proofs.arrays.by_use.BucketByUse.new.Goals as goal

pub returns : goal.returns
returns g c =
    left_at_first c.args.bucket.now c.slots_by_use.result c.own_slot.result c.fact_sound.ensures.own_long c.slots_by_use.ensures
    c.own_slot.ensures
