use Rattle.std.proofs.Common.{◌≤◌, [], length, drop, refl, sym, take, append-nil, take_all, take-append-drop, arith}
use Rattle.std.proofs.lemmas.Result.{err_from_is_err_and}
use Rattle.bhtable.proofs.Growing.{nothing_grown}
use Rattle.bhtable.proofs.PushingAll.{left_more, one_pushed}
use Rattle.bhtable.proofs.replies.Replies.push_all.Goals as goal

pub loop-reply-init : goal.loop-reply-init
loop-reply-init g c = nothing_grown _ _

pub returns-in_err-push : goal.returns-in_err-push
returns-in_err-push g c =
    let p = err_from_is_err_and c.from_residual.result c.from_residual.ensures.1 in
    let replies = c.args.replies.now in
    let index = c.loop-reply.reply-index in
    rw (p.1, p.2) (
      take index replies,
      drop index replies,
      sym (take-append-drop index replies),
      left_more c.in_err-push.field-0.0 _ _ _ _ _ _ _ c.loop-reply.invariant c.in_err-push.ensures,
    )

pub loop-reply-preserved : goal.loop-reply-preserved
loop-reply-preserved g c =
    one_pushed _ _ _ _ _ _ c.args.replies.now c.loop-reply.reply-index _ c.loop-reply-test.true c.loop-reply.invariant c.in_ok-push.ensures

pub returns : goal.returns
returns g c =
    let replies = c.args.replies.now in
    let end : length replies ≤ c.loop-reply.reply-index = omega arith in
    (replies, [], sym (append-nil replies), (refl, rw (take_all c.loop-reply.reply-index replies end) at c.loop-reply.invariant))
