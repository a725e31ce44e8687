use Rattle.bucket_table.proofs.Words.{rules}
use Rattle.bucket_table.proofs.Walking.SweepSteps.{fewer_hashes, stands_first, stands_next}
use Rattle.bucket_table.proofs.Map.OpenTickets.{bag_left}
use Rattle.bucket_table.proofs.hash_table.HashTable.sweep.Goals as goal

pub loop-place-init : goal.loop-place-init
loop-place-init g c = stands_first _ g.H.KeyHash.hash_of g.row.TYPE _ c.args.self.now c.first-place.ensures.sets_out

pub loop-place-preserved : goal.loop-place-preserved
loop-place-preserved g c =
    stands_next _ g.H.KeyHash.hash_of g.row.TYPE _ c.args.self.now c.first_past_bucket-place.new.at c.loop-place.invariant c.in-Ok.is
    c.fact_sound.ensures.one_map.placed c.retain_bucket-taken.ensures.hasher c.retain_bucket-taken.ensures.retained (search rules)
    c.first_past_bucket-place.ensures.map (bag_left _ _ _ _ _ _ c.first_past_bucket-place.ensures.departs)
    c.first_past_bucket-place.ensures.leaves c.first_past_bucket-place.ensures.marks
    c.first_past_bucket-place.ensures.departs

pub loop-place-smaller : goal.loop-place-smaller
loop-place-smaller g c =
    fewer_hashes _ g.H.KeyHash.hash_of g.row.TYPE _ c.args.self.now c.first_past_bucket-place.new.self.arrays
    c.first_past_bucket-place.result c.loop-place.invariant c.in-Ok.is c.fact_sound.ensures.long
    c.retain_bucket-taken.ensures.retained c.first_past_bucket-place.ensures.leaves.1
