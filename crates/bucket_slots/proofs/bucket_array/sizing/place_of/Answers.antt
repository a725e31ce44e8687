use Rattle.bucket_slots.proofs.Words.{and_mask, ap, bit_and, ℕ, ◌∙◌}
use Rattle.bucket_slots.proofs.bucket_array.sizing.place_of.Goals as goal

pub returns-clause-offset : goal.returns-clause-offset
returns-clause-offset c = ap (λ (n : ℕ). bit_and c.args.index n) c.requires.mask ∙ and_mask c.args.index c.args.part_bits
