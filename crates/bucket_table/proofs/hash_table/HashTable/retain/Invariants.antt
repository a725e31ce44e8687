use Rattle.bucket_table.proofs.Words.{length, ◌-◌, ◌≡◌}
use denote.Param.Always.{always_mut}
use Rattle.bucket_table.specs.Walking.Row.{row_of}
use Rattle.bucket_table.proofs.Walking.RetainingTable.{IsThrough}
use Rattle.bucket_table.proofs.hash_table.HashTable.retain.Given as goal

-- the closure can be called again, and was called with the pairs of each bucket below the index
abbrev pub invariant-loop-bucket : goal.invariant-loop-bucket
invariant-loop-bucket g l =
    always_mut g.F.FnMut l.keep
    × (l.self.hasher ≡ l.fn.self.hasher)
    × IsThrough (λ state own before answer after last. goal.F-step g state own before answer after last) g.row.TYPE
    (g.G.Generation.epoch_of l.generation) l.fn.keep l.fn.self.arrays l.keep l.self.arrays l.index l.count

abbrev pub decreases-loop-bucket : goal.decreases-loop-bucket
decreases-loop-bucket g l = length (row_of l.self.arrays) - l.index
