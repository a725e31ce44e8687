use Rattle.bucket_slots.proofs.bucket_array.buckets.Buckets.fill.Goals as goal

pub fill_own-requires : goal.fill_own-requires
fill_own-requires g c =
    let own = c.get_long_mut.ensures.bucket in
    (c.fact_room.ensures, (rw own c.requires.unmarked, (rw own c.requires.mask, c.requires.some)))
