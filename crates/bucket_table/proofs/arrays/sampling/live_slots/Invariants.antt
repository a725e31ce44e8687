use Rattle.bucket_table.proofs.Words.{counted, live_counts, min, ◌-◌, ◌^◌, ◌≡◌}
use Rattle.bucket_table.proofs.arrays.sampling.live_slots.Given as goal

abbrev pub invariant-loop-offset : goal.invariant-loop-offset
invariant-loop-offset g l = l.live ≡ min (counted (live_counts l.array) l.start l.offset) (2 ^ 64 - 1)
