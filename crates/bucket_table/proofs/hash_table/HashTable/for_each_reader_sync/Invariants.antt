use Rattle.bucket_table.proofs.Words.{KeepsArrays, false, length, reading, ◌-◌, ◌≡◌}
use Rattle.bucket_table.proofs.Walking.Visiting.{WalkStands}
use Rattle.bucket_table.proofs.hash_table.HashTable.for_each_reader_sync.Given as goal

abbrev pub invariant-loop-more : goal.invariant-loop-more
invariant-loop-more g l = g.F.Read.may_read l.reader × (l.self.hasher ≡ l.fn.self.hasher)
    × WalkStands (reading g.F.Read.reads) (g.H.KeyHash.hash_of l.fn.self.hasher) l.fn.reader
    l.reader l.fn.self.arrays 0 l.index false l.more l.self.arrays × KeepsArrays l.fn.self.arrays l.self.arrays
    × (length l.fn.self.arrays.linked ≡ 0 → l.self.arrays ≡ l.fn.self.arrays)

abbrev pub decreases-loop-more : goal.decreases-loop-more
decreases-loop-more g l = length l.fn.self.arrays.current - l.index
