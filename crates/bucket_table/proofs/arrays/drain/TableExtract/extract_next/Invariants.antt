use Rattle.bucket_table.proofs.Words.{length}
use denote.Param.Always.{always_mut}
use Rattle.bucket_table.specs.Map.Counting.{IsMost}
use Rattle.bucket_table.specs.Walking.Row.{pairs_from, row_of}
use Rattle.bucket_table.proofs.Walking.Extracting.{IsExtracting}
use Rattle.bucket_table.proofs.arrays.drain.TableExtract.extract_next.Given as goal

-- the closure can be called again, and didn't pick the pairs that are no longer left; no more are left than the bound
abbrev pub invariant-slots : goal.invariant-slots
invariant-slots g l =
    always_mut g.F.FnMut l.pick
    × IsExtracting (λ state own before answer after last. goal.F-step g state own before answer after last) g.row.TYPE l.fn.pick
    l.fn.self l.pick
    (record {
      arrays = l.self-inside.arrays;
      left = pairs_from (row_of l.self-inside.arrays) l.self-inside.index l.self-inside.at;
    })
    × IsMost l.self-inside.is_counted l.self-inside.most (pairs_from (row_of l.self-inside.arrays) l.self-inside.index l.self-inside.at)

abbrev pub decreases-slots : goal.decreases-slots
decreases-slots g l = length (pairs_from (row_of l.self-inside.arrays) l.self-inside.index l.self-inside.at)
