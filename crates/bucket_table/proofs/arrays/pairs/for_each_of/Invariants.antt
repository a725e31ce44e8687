use denote.Param.Always.{always_mut}
use Rattle.bucket_slots.specs.Walking.{CallsEach}
use Rattle.bucket_table.proofs.Words.{take}
use Rattle.bucket_table.specs.Map.LookingUp.{pairs_in_all}
use Rattle.bucket_table.proofs.arrays.pairs.for_each_of.Given as goal

-- the function can be called again, and was called with each pair so far
abbrev pub invariant-loop-index : goal.invariant-loop-index
invariant-loop-index g l =
    always_mut g.F.FnMut l.f
    × CallsEach (λ state own value last. goal.F-step g state own value tt last) l.fn.f (pairs_in_all (take l.index
    l.array)) l.f
