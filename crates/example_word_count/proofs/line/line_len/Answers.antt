use Rattle.std.proofs.Common.{◌≡◌, ◌==◌, ◌∙◌, ap, length, not, unwrap_or, arith}
use Rattle.std.specs.List.{position_or_len}
use Rattle.std.proofs.lemmas.List.Sums.{prefix_len-le-length}
use Rattle.example_word_count.proofs.LineSteps.{unwrap_or-position}
use Rattle.example_word_count.proofs.line.line_len.Goals as goal

pub returns-clause-line : goal.returns-clause-line
returns-clause-line c =
    c.unwrap_or.ensures ∙ ap (λ o. unwrap_or o (length c.args.bytes.now)) c.newline_in.ensures
    ∙ unwrap_or-position (λ byte. byte == 10) c.args.bytes.now

pub returns-clause-bound : goal.returns-clause-bound
returns-clause-bound c =
    let is : c.unwrap_or.result ≡ position_or_len (λ byte. byte == 10) c.args.bytes.now =
    c.unwrap_or.ensures ∙ ap (λ o. unwrap_or o (length c.args.bytes.now)) c.newline_in.ensures
    ∙ unwrap_or-position (λ byte. byte == 10) c.args.bytes.now in
    omega (arith, is, prefix_len-le-length (λ byte. not (byte == 10)) c.args.bytes.now)
