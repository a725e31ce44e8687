use Rattle.bucket_slots.proofs.Words.{free_block, replicate, ◌≡◌}
use Rattle.bucket_slots.proofs.bucket.chain.Chain.free_blocks.Given as goal

abbrev pub invariant-loop-made : goal.invariant-loop-made
invariant-loop-made g l = l.chain ≡ replicate l._made free_block
