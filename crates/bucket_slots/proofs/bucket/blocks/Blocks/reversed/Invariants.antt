use Rattle.bucket_slots.proofs.Words.{length, reverse, reverse_aux, ◌≡◌}
use Rattle.bucket_slots.proofs.bucket.blocks.Blocks.reversed.Given as goal

-- the rest, reversed, and then what is reversed already
abbrev pub invariant-loop-block : goal.invariant-loop-block
invariant-loop-block g l = reverse_aux l.self l.turned ≡ reverse l.fn.self

abbrev pub decreases-loop-block : goal.decreases-loop-block
decreases-loop-block g l = length l.self
