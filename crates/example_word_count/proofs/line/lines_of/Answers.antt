use Rattle.std.proofs.Common.{refl, sym, ◌∙◌}
use Rattle.example_word_count.proofs.LineSteps.{lines_of-taken}
use Rattle.example_word_count.proofs.line.lines_of.Goals as goal

pub loop-rest-preserved : goal.loop-rest-preserved
loop-rest-preserved c =
    lines_of-taken (λ line. line.bytes.now) c.loop-rest.lines.items c.push.new.self.items _ c.loop-rest.rest.now
    c.behind_line-rest.result.now _
    c.line_len-len.result c.loop-rest.invariant (sym c.is_empty.ensures ∙ c.loop-rest-test.true) c.line_len-len.ensures.line
    c.behind_line-rest.ensures c.in_ok-push.ensures.items refl
