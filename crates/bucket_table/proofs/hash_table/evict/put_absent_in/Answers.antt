use Rattle.bucket_table.proofs.Words.{rules, true, ◌%◌}
use Rattle.bucket_slots.proofs.RoomAfter.{refused_full}
use Rattle.bucket_table.proofs.Map.PutSlots.{goes, never_full, put_is}
use Rattle.bucket_table.proofs.hash_table.evict.put_absent_in.Goals as goal

pub unreachable-requires : goal.unreachable-requires
unreachable-requires g c =
    let e = c.evict_lru_head-gone.ensures in
    let (went, is) = goes c.args.bucket.now c.evict_lru_head-gone.new.self c.evict_lru_head-gone.result e.none e.pair e.slots e.unchanged in
    let none = rw c.in_default.is at (refused_full c.insert.result _ _ _ c.insert.ensures.refused) in
    never_full g.row.TYPE (λ _. true) c.args.bucket.now c.evict_lru_head-gone.new.self c.evict_lru_head-gone.result c.requires.cache is went
    none

pub returns-clause-goes : goal.returns-clause-goes
returns-clause-goes g c =
    let e = c.evict_lru_head-gone.ensures in
    (goes c.args.bucket.now c.evict_lru_head-gone.new.self c.evict_lru_head-gone.result e.none e.pair e.slots e.unchanged).0

pub returns-clause-put : goal.returns-clause-put
returns-clause-put g c =
    let e = c.evict_lru_head-gone.ensures in
    let (went, is) = goes c.args.bucket.now c.evict_lru_head-gone.new.self c.evict_lru_head-gone.result e.none e.pair e.slots e.unchanged in
    put_is g.row.TYPE (λ _. true) c.args.bucket.now c.evict_lru_head-gone.new.self c.evict_lru_head-gone.result
    c.requires.cache is went g.L.LruList.KEEPS (c.args.key, c.args.value) (c.args.hash % 256) c.in-Ok.at c.insert.new.self _
    c.in-Ok.ensures.place c.in-Ok.ensures.slots (search rules)
