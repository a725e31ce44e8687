use Rattle.bucket_table.proofs.Words.{ap, arith, length, pairs_in, ◌∙◌}
use Rattle.bucket_table.proofs.arrays.Arrays.shrink_emptied.Goals as goal

pub shrink_left-requires : goal.shrink_left-requires
shrink_left-requires g c = (omega arith, (c.requires.within, c.len-left.ensures ∙ ap (λ b. length (pairs_in b)) c.bucket_of.ensures))
