use Rattle.std.proofs.Common.{sym}
use Rattle.bhtable.proofs.Newlines.{newline_by_mask}
use Rattle.bhtable.proofs.lines.newline_in_front.Goals as goal

pub returns : goal.returns
returns c =
    let front = c.in_ok-front.ensures.cases in
    let mask = c.match_partial_hash-newlines in
    sym (newline_by_mask c.args.bytes.now mask.result front.enough (rw front.same at mask.ensures) c.if-newlines-eq0.false mask.type_inv)
