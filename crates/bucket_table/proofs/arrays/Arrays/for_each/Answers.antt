use Rattle.bucket_table.proofs.Words.{sym, ◌++◌, ◌∙◌}
use Rattle.bucket_slots.proofs.CallingEach.{calls_joined}
use Rattle.bucket_table.specs.Map.LookingUp.{pairs_in_all}
use Rattle.bucket_table.proofs.Map.LookUps.{pairs_are}
use Rattle.bucket_table.proofs.Walking.EachPair.{calls_same}
use Rattle.bucket_table.proofs.arrays.Arrays.for_each.Goals as goal

pub returns-clause-calls : goal.returns-clause-calls
returns-clause-calls g c =
    let current = c.array.ensures.lent in
    let linked = c.linked_array.ensures.lent in
    let joined = calls_joined _ c.args.f.now c.for_each_of.new.f c.for_each_of-2.new.f _ _ c.for_each_of.ensures.calls
    c.for_each_of-2.ensures.calls in
    calls_same _ c.args.f.now c.for_each_of-2.new.f _ _
    ((λ j. pairs_in_all (current j) ++ pairs_in_all (linked j)) ∙ sym (pairs_are c.args.self.now)) joined
