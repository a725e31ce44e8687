use Rattle.std.proofs.Common.{inl, inr}
use Rattle.bucket_table.proofs.Resize.GivingUp.{gives_up}
use Rattle.bucket_table.proofs.Resize.Following.{given_up_keeps, given_up_placed, pushed_keeps, pushed_placed}
use Rattle.bucket_table.proofs.arrays.Arrays.try_resize.Goals as goal

pub returns-in-GiveUp-clause-resized : goal.returns-in-GiveUp-clause-resized
returns-in-GiveUp-clause-resized g c =
    inl (c.in-GiveUp.ensures.plan, gives_up c.args.self.now _ c.in-GiveUp.ensures.plan c.give_array_up.ensures)

pub returns-in-GiveUp-clause-kept : goal.returns-in-GiveUp-clause-kept
returns-in-GiveUp-clause-kept g c = given_up_keeps c.args.self.now _
    (gives_up c.args.self.now _ c.in-GiveUp.ensures.plan c.give_array_up.ensures)

pub returns-in-GiveUp-clause-placed : goal.returns-in-GiveUp-clause-placed
returns-in-GiveUp-clause-placed g c = λ hash. given_up_placed hash c.args.self.now _
    (gives_up c.args.self.now _ c.in-GiveUp.ensures.plan c.give_array_up.ensures)

pub returns-in_ok-push_array-in-Resize-clause-resized : goal.returns-in_ok-push_array-in-Resize-clause-resized
returns-in_ok-push_array-in-Resize-clause-resized g c =
    inr (c.in-Resize.capacity, c.in-Resize.ensures.plan, c.in_ok-push_array-in-Resize.ensures.pushed)

pub returns-in_ok-push_array-in-Resize-clause-kept : goal.returns-in_ok-push_array-in-Resize-clause-kept
returns-in_ok-push_array-in-Resize-clause-kept g c =
    pushed_keeps c.in-Resize.capacity c.args.self.now _ c.in_ok-push_array-in-Resize.ensures.pushed

pub returns-in_ok-push_array-in-Resize-clause-placed : goal.returns-in_ok-push_array-in-Resize-clause-placed
returns-in_ok-push_array-in-Resize-clause-placed g c =
    λ hash. pushed_placed hash c.in-Resize.capacity c.args.self.now _ c.in_ok-push_array-in-Resize.ensures.pushed
