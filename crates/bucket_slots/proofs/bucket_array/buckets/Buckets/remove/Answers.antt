use Rattle.bucket_slots.proofs.Words.{rules}
use Rattle.bucket_slots.proofs.bucket_array.buckets.Buckets.remove.Goals as goal

pub made_mut-requires : goal.made_mut-requires
made_mut-requires g c =
    let alive = rw c.requires.own at c.requires.live_slot in
    (search rules, (search rules, (c.requires.long, (c.requires.within, (c.args.at.pos, alive)))))
