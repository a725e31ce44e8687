use Rattle.std.proofs.Common.{take}
use Rattle.bhtable.specs.Growing.{HasGrown}
use Rattle.bhtable.specs.Layout.Replies.{lines_of_replies}
use Rattle.bhtable.proofs.replies.Replies.push_all.Given as goal

abbrev pub invariant-loop-reply : goal.invariant-loop-reply
invariant-loop-reply g l =
    HasGrown (g.W.Write.contents l.fn.output) l.fn.self (g.W.Write.contents l.output) l.self
    (lines_of_replies (take l.reply-index l.replies))
