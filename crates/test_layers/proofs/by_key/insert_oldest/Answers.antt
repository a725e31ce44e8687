use Rattle.std.proofs.Common.{rules, ap}
use Rattle.bucket_slots.specs.Slots.{is_live}
use Rattle.test_layers.proofs.Appending.{inserted_unlisted}
use Rattle.test_layers.proofs.by_key.insert_oldest.Goals as goal

pub append_lru-requires : goal.append_lru-requires
append_lru-requires g c =
    let inserted = c.in_ok-at.ensures in
    let unlisted = inserted_unlisted g.row.TYPE _ c.args.bucket.now _ _ _ _ c.requires.cache c.fact_sound.ensures inserted.place
    inserted.slots in
    (search rules, (search rules, (c.requires.cache, (ap is_live inserted.names, unlisted))))
