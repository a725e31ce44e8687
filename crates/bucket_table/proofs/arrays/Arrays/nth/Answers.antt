use Rattle.bucket_table.proofs.Words.{arith, ◌-◌, ◌∙◌}
use Rattle.bucket_table.proofs.Walking.Row.{current_in_row, old_in_row}
use Rattle.bucket_table.proofs.arrays.Arrays.nth.Goals as goal

pub returns-then-index-len-clause-bucket : goal.returns-then-index-len-clause-bucket
returns-then-index-len-clause-bucket g c =
    let at = current_in_row c.args.self.now c.args.index (omega (arith, c.if-index-len.true, c.len-len.ensures.value)) in
    (at.0, c.bucket_of.ensures ∙ at.1)

pub returns-then-own-old_len-clause-bucket : goal.returns-then-own-old_len-clause-bucket
returns-then-own-old_len-clause-bucket g c =
    let at = old_in_row c.args.self.now c.args.index (c.args.index - c.len-len.result) (omega (arith, c.len-len.ensures.value))
    (omega (arith, c.if-index-len.false, c.len-len.ensures.value)) (omega (arith, c.if-own-old_len.true, c.old_len.ensures.value)) in
    (at.0, c.bucket_of-then-own-old_len.ensures ∙ at.1)
