use Rattle.std.proofs.Common.{◌∙◌}
use Rattle.bhtable.proofs.Replying.{cut_back}
use Rattle.bhtable.proofs.replies.Replies.push.Goals as goal

pub returns-then-is_err : goal.returns-then-is_err
returns-then-is_err g c =
    let text = c.self.inside.text in
    let made = rw (← c.self.view_is) at c.in_ok-make_room.ensures.kept in
    cut_back _ _ c.args.self.now text.items c.append_reply.new.text.items c.truncate.new.self.items c.len-len.result
    c.append_reply.result made c.if-is_err.ensures.value c.append_reply.ensures.kept
    (c.len-len.ensures ∙ text.ok.0) c.truncate.ensures.items
